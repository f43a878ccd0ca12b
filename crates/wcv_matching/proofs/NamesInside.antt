-- In the types of an arena the names of imports and of exports differ.
use Rattle.std.proofs.Common.{◌≡◌, List, [], ◌∷◌, ◌++◌, bytes_eq, refl, ap, sym, subst, ◌∙◌}
use Rattle.std.specs.List.{IsDistinct}
use Rattle.std.specs.Map.{keys_of}
use Rattle.wcv_core.specs.Names.{Name}
use Rattle.wcv_core.specs.declared.core_types.EntityType.{EntityType}
use Rattle.wcv_types.specs.Arena.{Arena}
use Rattle.wcv_types.specs.ByName.{NamesDiffer}
use Rattle.wcv_types.specs.Entities.{entry_trees}
use Rattle.wcv_types.specs.Standing.{Stands, AllFit, AreNamesApart}
use Rattle.wcv_types.specs.Tree.{Text, Extern_name, Role, here, label, import, export, core_import, core_export, Parts, part, exports_in, imports_in}
use Rattle.wcv_types.specs.Unfold.{Type_tree, Slots, core_import_slots, core_export_slots, kind_slots, slots_of, slot_parts, trees, tree_at}
use Rattle.wcv_types.specs.declared.arena.Node.{Node}
use Rattle.wcv_types.specs.declared.arena.Node.TheVariants as n
use Rattle.wcv_types.specs.declared.core_shapes.CoreInstanceTypeKind.{CoreInstanceTypeKind}
use Rattle.wcv_types.specs.declared.core_shapes.CoreInstanceTypeKind.TheVariants as kind
use Rattle.wcv_types.specs.declared.item_map.ComponentItem.{ComponentItem}
use Rattle.wcv_types.specs.declared.ids.Part.{Part}
use Rattle.wcv_types.proofs.AddedAgain.{fits_again}
use Rattle.wcv_types.proofs.EntryParts.{component_imports, component_exports}
use Rattle.wcv_matching.specs.Matching.{named}
use Rattle.wcv_matching.specs.Orderly.{AreNamedApart, AllNamesDiffer}
use Rattle.wcv_matching.proofs.ArenaTypes.{HoldsOfLeaves, each_type}
use Rattle.wcv_matching.proofs.SlotRoles.{EachRole, defined_roles, params_roles}

no-names : IsDistinct bytes_eq []
unfolding IsDistinct
no-names = tt

-- ## Nodes without imports and exports

abbrev IsNoEntry : Role → Type 0
IsNoEntry (import n) = ⊥
IsNoEntry (export n) = ⊥
IsNoEntry r = Unit {0}

core_exports-bare : (es : List (Text × EntityType)) → EachRole IsNoEntry (core_export_slots es)
core_exports-bare [] = tt
core_exports-bare (e ∷ es) = (tt, core_exports-bare es)

module-bare : (is : List ((Text × Text) × EntityType)) (es : List (Text × EntityType)) → EachRole IsNoEntry (core_import_slots is ++ core_export_slots es)
module-bare [] es = core_exports-bare es
module-bare (i ∷ is) es = (tt, module-bare is es)

kind-bare : (k : CoreInstanceTypeKind) → EachRole IsNoEntry (kind_slots k)
kind-bare (kind.Instantiated m) = (tt, tt)
kind-bare (kind.Exports es) = core_exports-bare es

skipped : (r : Role) (t : Type_tree) (ps : Parts Name Name) → IsNoEntry r → (imports_in (part r t ps) ≡ imports_in ps) × (exports_in (part r t ps) ≡ exports_in ps)
skipped here t ps h = (refl, refl)
skipped (label l) t ps h = (refl, refl)
skipped (import l) t ps h = absurd h
skipped (export l) t ps h = absurd h
skipped (core_import m l) t ps h = (refl, refl)
skipped (core_export l) t ps h = (refl, refl)

-- ## Names of entries

keys-named : (ts : List Type_tree) (es : List (Text × ComponentItem)) → keys_of (named (entry_trees ts es)) ≡ keys_of es
keys-named ts [] = refl
keys-named ts (e ∷ es) = ap (λ (ks : List Text). e.0 ∷ ks) (keys-named ts es)

apart : (ts : List Type_tree) (ps : Parts Name Name) (is es : List (Text × ComponentItem)) → imports_in ps ≡ entry_trees ts is → exports_in ps ≡ entry_trees ts es → NamesDiffer is → NamesDiffer es → AreNamedApart ps
apart ts ps is es i e d d' = (
  subst (IsDistinct bytes_eq) (sym (ap (λ (xs : List (Extern_name × Type_tree)). keys_of (named xs)) i ∙ keys-named ts is)) d,
  subst (IsDistinct bytes_eq) (sym (ap (λ (xs : List (Extern_name × Type_tree)). keys_of (named xs)) e ∙ keys-named ts es)) d',
)

-- ## Each node

module _ (ts : List Type_tree) where
  no_entries : (ss : Slots) → EachRole IsNoEntry ss → (imports_in (slot_parts ts ss) ≡ []) × (exports_in (slot_parts ts ss) ≡ [])
  no_entries [] h = (refl, refl)
  no_entries (s ∷ ss) h =
      let u = skipped s.0 _ (slot_parts ts ss) h.0 in
      let v = no_entries ss h.1 in
      (u.0 ∙ v.0, u.1 ∙ v.1)

  bare-apart : (ss : Slots) → EachRole IsNoEntry ss → AreNamedApart (slot_parts ts ss)
  bare-apart ss h = let e = no_entries ss h in apart ts (slot_parts ts ss) [] [] e.0 e.1 no-names no-names

  node-apart : (x : Node) → AreNamesApart x → AreNamedApart (slot_parts ts (slots_of x))
  node-apart (n.Defined s) h = bare-apart (slots_of (n.Defined s)) (defined_roles IsNoEntry tt (λ l. tt) s)
  node-apart (n.Func s) h = bare-apart (slots_of (n.Func s)) (params_roles IsNoEntry tt (λ l. tt) s.params.items s.result)
  node-apart (n.Instance s) h = apart ts (slot_parts ts (slots_of (n.Instance s))) [] s.exports (component_imports ts [] s.exports) (component_exports ts [] s.exports) no-names h
  node-apart (n.Component s) h = apart ts (slot_parts ts (slots_of (n.Component s))) s.imports s.exports (component_imports ts s.imports s.exports) (component_exports ts s.imports s.exports) h.0 h.1
  node-apart (n.Module s) h = bare-apart (slots_of (n.Module s)) (module-bare s.imports s.exports)
  node-apart (n.CoreInstance s) h = bare-apart (slots_of (n.CoreInstance s)) (kind-bare s.kind)

pub leaves-apart : HoldsOfLeaves (λ h ps. AreNamedApart ps)
leaves-apart = record {
  left_out = (no-names, no-names);
  primitives = λ q. (no-names, no-names);
  references = λ r s. (no-names, no-names);
  types = λ i. (no-names, no-names);
  items = λ e. (no-names, no-names);
  entities = λ c r. (no-names, no-names);
}

pub all_apart : (a : Arena) → AllFit a → (q : Part) → Stands a q → AllNamesDiffer (tree_at a q)
all_apart a fit q s = each_type (λ h ps. AreNamedApart ps) leaves-apart a fit (λ k x e. node-apart (trees a.nodes) x (fits_again a k x fit e).apart) q s
