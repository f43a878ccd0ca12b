-- The core types that the types of an arena name are of its table.
use Rattle.std.proofs.Common.{◌≡◌, List, [], ◌∷◌, ◌++◌, refl, sym, subst, ◌∙◌}
use Rattle.std.specs.Prelude.{All}
use Rattle.std.proofs.lemmas.List.Elements.{All-nil}
use Rattle.wcv_core.specs.CoreGroups.{total}
use Rattle.wcv_core.specs.CoreSizes.{IsEntityWithin}
use Rattle.wcv_core.specs.Names.{Name}
use Rattle.wcv_core.specs.declared.core_types.EntityType.{EntityType}
use Rattle.wcv_types.specs.Arena.{Arena}
use Rattle.wcv_types.specs.Standing.{Stands, AllFit, core_items, kind_items}
use Rattle.wcv_types.specs.Tree.{Text, Role, here, label, import, export, core_import, core_export, Parts, part}
use Rattle.wcv_types.specs.Unfold.{Type_tree, Slots, entry_slots, kind_slots, slots_of, slot_parts, trees, tree_at}
use Rattle.wcv_types.specs.declared.arena.Node.{Node}
use Rattle.wcv_types.specs.declared.arena.Node.TheVariants as n
use Rattle.wcv_types.specs.declared.core_shapes.CoreInstanceTypeKind.{CoreInstanceTypeKind}
use Rattle.wcv_types.specs.declared.core_shapes.CoreInstanceTypeKind.TheVariants as kind
use Rattle.wcv_types.specs.declared.item_map.ComponentItem.{ComponentItem}
use Rattle.wcv_types.specs.declared.ids.Part.{Part}
use Rattle.wcv_types.proofs.AddedAgain.{fits_again}
use Rattle.wcv_closed.specs.CoreModules.{EachItem}
use Rattle.wcv_matching.specs.ModuleItems.{core_imports_in, core_exports_in}
use Rattle.wcv_matching.specs.Orderly.{items_in}
use Rattle.wcv_matching.specs.TableMatching.{CoreWithin}
use Rattle.wcv_matching.proofs.ArenaTypes.{HoldsOfLeaves, each_type}
use Rattle.wcv_matching.proofs.ModuleTrees.{exports_alone, no_imports, imports_seen, exports_seen, all_mapped, module_imports_all, module_exports_all}
use Rattle.wcv_matching.proofs.SlotRoles.{EachRole, defined_roles, params_roles}

-- ## Roles of other parts

abbrev IsNoCore : Role → Type 0
IsNoCore (core_import m n) = ⊥
IsNoCore (core_export n) = ⊥
IsNoCore r = Unit {0}

skipped : (r : Role) (t : Type_tree) (ps : Parts Name Name) → IsNoCore r → (core_imports_in (part r t ps) ≡ core_imports_in ps) × (core_exports_in (part r t ps) ≡ core_exports_in ps)
skipped here t ps h = (refl, refl)
skipped (label l) t ps h = (refl, refl)
skipped (import l) t ps h = (refl, refl)
skipped (export l) t ps h = (refl, refl)
skipped (core_import m l) t ps h = absurd h
skipped (core_export l) t ps h = absurd h

exports_plain : (es : List (Text × ComponentItem)) → EachRole IsNoCore (entry_slots export es)
exports_plain [] = tt
exports_plain (e ∷ es) = (tt, exports_plain es)

entries_plain : (is es : List (Text × ComponentItem)) → EachRole IsNoCore (entry_slots import is ++ entry_slots export es)
entries_plain [] es = exports_plain es
entries_plain (i ∷ is) es = (tt, entries_plain is es)

-- ## Items of nodes

module _ (W : EntityType → Type 0) (ts : List Type_tree) where
  abbrev Within_items : Slots → Type 0
  Within_items ss = EachItem W (items_in (slot_parts ts ss))

  no_core : (ss : Slots) → EachRole IsNoCore ss → (core_imports_in (slot_parts ts ss) ≡ []) × (core_exports_in (slot_parts ts ss) ≡ [])
  no_core [] h = (refl, refl)
  no_core (s ∷ ss) h =
      let u = skipped s.0 _ (slot_parts ts ss) h.0 in
      let v = no_core ss h.1 in
      (u.0 ∙ v.0, u.1 ∙ v.1)

  plain_within : (ss : Slots) → EachRole IsNoCore ss → Within_items ss
  plain_within ss h =
      let e = no_core ss h in
      record {
        imports = subst (λ (is : List ((Text × Text) × EntityType)). All (λ (i : (Text × Text) × EntityType). W i.1) is) (sym e.0) (All-nil _);
        exports = subst (λ (es : List (Text × EntityType)). All (λ (x : Text × EntityType). W x.1) es) (sym e.1) (All-nil _);
      }

  kind_within : (c : CoreInstanceTypeKind) → All W (kind_items c) → Within_items (kind_slots c)
  kind_within (kind.Instantiated m) w = plain_within (kind_slots (kind.Instantiated m)) (tt, tt)
  kind_within (kind.Exports es) w = record {
    imports = subst (λ (is : List ((Text × Text) × EntityType)). All (λ (i : (Text × Text) × EntityType). W i.1) is) (sym (no_imports ts es)) (All-nil _);
    exports = subst (λ (xs : List (Text × EntityType)). All (λ (x : Text × EntityType). W x.1) xs) (sym (exports_alone ts es)) (all_mapped W (λ (x : Text × EntityType). x.1) es w);
  }

  node_within : (x : Node) → All W (core_items x) → Within_items (slots_of x)
  node_within (n.Defined s) w = plain_within (slots_of (n.Defined s)) (defined_roles IsNoCore tt (λ l. tt) s)
  node_within (n.Func s) w = plain_within (slots_of (n.Func s)) (params_roles IsNoCore tt (λ l. tt) s.params.items s.result)
  node_within (n.Instance s) w = plain_within (slots_of (n.Instance s)) (exports_plain s.exports)
  node_within (n.Component s) w = plain_within (slots_of (n.Component s)) (entries_plain s.imports s.exports)
  node_within (n.Module s) w = record {
    imports = subst (λ (is : List ((Text × Text) × EntityType)). All (λ (i : (Text × Text) × EntityType). W i.1) is) (sym (imports_seen ts s.imports s.exports)) (module_imports_all W s.imports s.exports w);
    exports = subst (λ (xs : List (Text × EntityType)). All (λ (x : Text × EntityType). W x.1) xs) (sym (exports_seen ts s.imports s.exports)) (module_exports_all W s.imports s.exports w);
  }
  node_within (n.CoreInstance s) w = kind_within s.kind w

pub nothing_named : (W : EntityType → Type 0) → HoldsOfLeaves (λ h ps. EachItem W (items_in ps))
nothing_named W = record {
  left_out = record { imports = All-nil _; exports = All-nil _ };
  primitives = λ q. record { imports = All-nil _; exports = All-nil _ };
  references = λ r s. record { imports = All-nil _; exports = All-nil _ };
  types = λ i. record { imports = All-nil _; exports = All-nil _ };
  items = λ e. record { imports = All-nil _; exports = All-nil _ };
  entities = λ c r. record { imports = All-nil _; exports = All-nil _ };
}

pub all_within : (a : Arena) → AllFit a → (q : Part) → Stands a q → CoreWithin a.core (tree_at a q)
all_within a fit q s =
    let W : EntityType → Type 0 = IsEntityWithin (total a.core) in
    each_type (λ h ps. EachItem W (items_in ps)) (nothing_named W) a fit (λ k x e. node_within W (trees a.nodes) x (fits_again a k x fit e).within) q s
