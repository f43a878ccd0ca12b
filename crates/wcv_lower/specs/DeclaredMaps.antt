-- What a map of entries asks where declarations are read: at each declaration what stands on top is known, and the makers make the same
-- of what it uses.
use Rattle.std.specs.Prelude.{ℕ, suc, Some, ◌≡◌}
use Rattle.wcv_core.specs.Names.{Place, deeper}
use Rattle.wcv_core.specs.declared.features.WasmFeatures.{WasmFeatures}
use Rattle.wcv_syntax.specs.Model.{Type_form, component_type, instance_type, Decl, core_type_decl, type_decl, alias_decl, export_decl, import_decl, Decls, no_decls, declare}
use Rattle.wcv_lower.specs.Context.{Kind, declares_instance, declares_component, Stack}
use Rattle.wcv_lower.specs.Declared.{Makers, inside, read_decl}
use Rattle.wcv_lower.specs.Ending.{declared_made}
use Rattle.wcv_lower.specs.Mapped.{Map, IsKnown, MakesSame}
use Rattle.wcv_lower.specs.Readers.{Reader}
use Rattle.wcv_lower.specs.Uses.{Uses, uses_node, ref_uses, type_uses, core_type_uses}

module _ {X Y : Reader} (m : Map X Y) (Known : X.Entry → Type 0) (fs : WasmFeatures) (k : Makers X) (l : Makers Y) where
  -- at a place, over a stack
  pub record Alike (p : Place) (s : Stack X) (u : Uses X) : Type 0 where
    pub known : IsKnown Known s.top
    pub same : MakesSame m Known (k p) (l p) u

  abbrev mutual
    pub TypeAlike : Place → Stack X → Type_form → Type 0
    TypeAlike p s (component_type ds) = DeclsAlike p 0 declares_component (inside declares_component s) ds
    TypeAlike p s (instance_type ds) = DeclsAlike p 0 declares_instance (inside declares_instance s) ds
    TypeAlike p s t = Alike p s (type_uses s.top t)

    pub DeclAlike : Place → Stack X → Decl → Type 0
    DeclAlike p s (core_type_decl t) = Alike p s (core_type_uses fs s t)
    DeclAlike p s (type_decl t) = TypeAlike p s t
    DeclAlike p s (alias_decl a) = IsKnown Known s.top
    DeclAlike p s (export_decl n r) = Alike p s (ref_uses s.top r)
    DeclAlike p s (import_decl i) = Alike p s (ref_uses s.top i.ty)

    -- and at the end of what the node is made
    pub DeclsAlike : Place → ℕ → Kind → Stack X → Decls → Type 0
    DeclsAlike p n c s no_decls = MakesSame m Known (k p) (l p) (uses_node (declared_made c s.top))
    DeclsAlike p n c s (declare d ds) = DeclAlike (deeper p n) s d × ((t : Stack X) → read_decl fs k (deeper p n) s d ≡ Some t → DeclsAlike p (suc n) c t ds)
