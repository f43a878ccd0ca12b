-- What an item, but for a declared type, a declared export and an alias bring to the context that they stand in is tidy.
use Rattle.std.proofs.Common.{◌≡◌, zero, ◌∷◌, ◌++◌, Bool, true, false, cond, ◌&&◌, refl, ◌∙◌, ap, subst, Some, None}
use Rattle.std.specs.Option.{option_map}
use Rattle.wcv_core.specs.Names.{Place, base}
use Rattle.wcv_core.specs.declared.features.WasmFeatures.{WasmFeatures}
use Rattle.wcv_syntax.specs.Model.{Form, core_type_item, core_module_item, core_instance_item, type_item, import_item, export_item, component_item, instance_item, alias_item, start_item, canon_item, Type_form, defined_type, func_type, component_type, instance_type, resource_type}
use Rattle.wcv_syntax.specs.declared.component_type.ComponentTypeRef.{ComponentTypeRef}
use Rattle.wcv_syntax.specs.declared.instance.ComponentAlias.{ComponentAlias}
use Rattle.wcv_syntax.specs.declared.instance.ComponentAlias.TheVariants as alias
use Rattle.wcv_syntax.specs.declared.name.ComponentExternName.{ComponentExternName}
use Rattle.wcv_types.specs.Tree.{sort, exports}
use Rattle.wcv_types.proofs.Lists.{some-inj}
use Rattle.wcv_lower.specs.Aliases.{joining, alias_step}
use Rattle.wcv_lower.specs.Context.{in_types, in_instances, is_concrete, importing, exporting}
use Rattle.wcv_lower.specs.Declared.{applied, declared_export_step}
use Rattle.wcv_lower.specs.Entries.{extern_name, written, exported, new_there, exported_values}
use Rattle.wcv_lower.specs.Growth.{step, grow}
use Rattle.wcv_lower.specs.Marks.{uses_each}
use Rattle.wcv_lower.specs.Names.{names_by_place}
use Rattle.wcv_lower.specs.NewTypes.{new_reference}
use Rattle.wcv_lower.specs.Owned.{AllEntries, Everywhere}
use Rattle.wcv_lower.specs.Readers.{New_node}
use Rattle.wcv_lower.specs.Step.{appends, defines, Step, apply, enters, joins_types}
use Rattle.wcv_lower.specs.Trees.{Type_tree, Tree_stack, tree_reader, tree_maker, type_entry, node_tree}
use Rattle.wcv_lower.specs.Types.{type_made, added, dtor_stands, type_step}
use Rattle.wcv_lower.proofs.EntryLaws.{newly_there}
use Rattle.wcv_lower.proofs.Bringing.{brings_one, brings_more}
use Rattle.wcv_growth.proofs.AliasGrowing.{first-has, export-found, outer-has, outer_step, outer-found, outer-brings}
use Rattle.wcv_growth.proofs.Known.{mapped-some, all-get, Any, joins-bring}
use Rattle.wcv_growth.proofs.Marked.{uses-tidy}
use Rattle.wcv_growth.proofs.StartGrowing.{start-tidy}
use Rattle.wcv_growth.proofs.Tidy.{Known, TidyEntry, NoneKnown, NoneAt, none-at, BringsTidy, brings-known, TidyBehind, apply-tidy}
use Rattle.wcv_growth.proofs.TidyCore.{core_type-tidy, core_module-tidy, core_instance-tidy, core_alias-tidy, canon-tidy}
use Rattle.wcv_growth.proofs.TidyEntering.{LeadsIn, enters-tidy, written-tidy, exported-tidy}
use Rattle.wcv_growth.proofs.TidyInstances.{exports-tidy, instance-tidy}
use Rattle.wcv_growth.proofs.TidyTypes.{with_node, knows-node, NodeTidy, created-tidy, entry-tidy, reference-tidy, made-tidy}

-- a node that is made there joins the types
pub added-tidy : (p : Place) (g : Known) → NoneAt p g → (n : New_node tree_reader) → NodeTidy p g n → BringsTidy p g (added (tree_maker names_by_place p) n)
added-tidy p g unknown n w =
    let t : Type_tree = node_tree (base p) n in
    record { known = with_node p g t; more = knows-node p g unknown t; brings = brings_one (TidyEntry (with_node p g t)) Any (appends in_types (type_entry t)) (entry-tidy (with_node p g t) t w) }

module _ (p : Place) (s : Tree_stack) (leads : LeadsIn s.top) (g : Known) (all : Everywhere (TidyEntry g) s) (unknown : NoneKnown p g) where
  abbrev y : AllEntries (TidyEntry g) s.top
  y = all zero s.top refl

  -- ## Type items

  type-brings : (t : Type_form) (x : Step tree_reader) → type_step (tree_maker names_by_place p) s.top t ≡ Some x → BringsTidy p g x
  type-brings (defined_type d) x e =
      let m = mapped-some (added (tree_maker names_by_place p)) (type_made s.top (defined_type d)) x e in
      subst (BringsTidy p g) m.2 (added-tidy p g (none-at p g unknown) m.0 (made-tidy p g (none-at p g unknown) s.top y (defined_type d) m.0 m.1))
  type-brings (func_type f) x e =
      let m = mapped-some (added (tree_maker names_by_place p)) (type_made s.top (func_type f)) x e in
      subst (BringsTidy p g) m.2 (added-tidy p g (none-at p g unknown) m.0 (made-tidy p g (none-at p g unknown) s.top y (func_type f) m.0 m.1))
  type-brings (component_type ds) x e = cc
  type-brings (instance_type ds) x e = cc
  type-brings (resource_type rep dtor) x e = go (is_concrete s.top.kind && dtor_stands s.top dtor) e
    where
      reference : Type_tree
      reference = type_entry (new_reference names_by_place p)

      made : Step tree_reader
      made = defines (base p) (Some rep) ∷ joins_types reference

      go : (b : Bool) → cond b (Some made) None ≡ Some x → BringsTidy p g x
      go true w = subst (BringsTidy p g) (some-inj w) (brings-known p g made (brings_more (TidyEntry g) Any (defines (base p) (Some rep)) (joins_types reference) tt (brings_one (TidyEntry g) Any (appends in_types reference) (reference-tidy g p))))
      go false w = cc

  -- ## Aliases

  pub alias-tidy : (a : ComponentAlias) (x : Step tree_reader) → alias_step s a ≡ Some x → BringsTidy p g x
  alias-tidy (alias.InstanceExport w i n) x e =
      let m = export-found s w i n x e in
      let t : TidyEntry g m.instance = all-get (TidyEntry g) (s.top.space in_instances) i m.instance (y.space in_instances) m.there in
      let z : TidyEntry g m.export = first-has (TidyEntry g) n (exports m.instance) m.export m.first (exports-tidy g m.instance t.1) in
      subst (BringsTidy p g) m.joins (brings-known p g (joining m.export) (joins-bring (TidyEntry g) (created-tidy g) false (sort m.export) m.export z))
  alias-tidy (alias.CoreInstanceExport k i n) x e = core_alias-tidy p s g y (none-at p g unknown) k i n x e
  alias-tidy (alias.Outer w n i) x e =
      let m = outer-found s w n i x e in
      subst (BringsTidy p g) m.2 (brings-known p g (outer_step s w n m.0) (outer-brings (TidyEntry g) s w n m.0 (outer-has (TidyEntry g) s w n i m.0 m.1 all)))

  -- ## Items

  pub step-tidy : (fs : WasmFeatures) (f : Form) (x : Step tree_reader) → step fs (tree_maker names_by_place p) s f ≡ Some x → BringsTidy p g x
  step-tidy fs (type_item t) x e = type-brings t x e
  step-tidy fs (import_item i) x e =
      let m = mapped-some (enters importing (extern_name i.name)) (new_there importing (extern_name i.name) s.top (written (tree_maker names_by_place p) s.top i.ty)) x e in
      let o = newly_there importing (extern_name i.name) s.top (written (tree_maker names_by_place p) s.top i.ty) m.0 m.1 in
      subst (BringsTidy p g) m.2 (enters-tidy p s.top leads g y unknown importing (extern_name i.name) m.0 (written-tidy p s.top leads g y unknown i.ty m.0 o.0))
  step-tidy fs (export_item i) x e =
      let u = mapped-some (λ (z : Step tree_reader). uses_each (exported_values i) ++ z) (option_map (enters exporting (extern_name i.name)) (new_there exporting (extern_name i.name) s.top (exported (tree_maker names_by_place p) s.top i))) x e in
      let m = mapped-some (enters exporting (extern_name i.name)) (new_there exporting (extern_name i.name) s.top (exported (tree_maker names_by_place p) s.top i)) u.0 u.1 in
      let o = newly_there exporting (extern_name i.name) s.top (exported (tree_maker names_by_place p) s.top i) m.0 m.1 in
      subst (BringsTidy p g) u.2
      (uses-tidy p g (exported_values i) u.0 (subst (BringsTidy p g) m.2 (enters-tidy p s.top leads g y unknown exporting (extern_name i.name) m.0 (exported-tidy p s.top leads g y unknown i i.ty m.0 o.0))))
  step-tidy fs (core_type_item t) x e = core_type-tidy p s g y (none-at p g unknown) fs t x e
  step-tidy fs (core_module_item ds) x e = core_module-tidy p s g y (none-at p g unknown) fs ds x e
  step-tidy fs (core_instance_item i) x e = core_instance-tidy p s g y (none-at p g unknown) i x e
  step-tidy fs (component_item is end) x e = cc
  step-tidy fs (instance_item i) x e = instance-tidy p s g y unknown i x e
  step-tidy fs (alias_item a) x e = alias-tidy a x e
  step-tidy fs (start_item f args n) x e = start-tidy s f args x e p g y
  step-tidy fs (canon_item f) x e = canon-tidy p s g y (none-at p g unknown) f x e

  pub grow-tidy : (fs : WasmFeatures) (f : Form) (u : Tree_stack) → grow fs (tree_maker names_by_place p) s f ≡ Some u → TidyBehind p g u
  grow-tidy fs f u e =
      let m = mapped-some (λ (x : Step tree_reader). apply x s) (step fs (tree_maker names_by_place p) s f) u e in
      subst (TidyBehind p g) m.2 (apply-tidy p g m.0 s all (step-tidy fs f m.0 m.1))

  -- ## Declarations

  pub declared-tidy : (n : ComponentExternName) (r : ComponentTypeRef) (u : Tree_stack) → applied s (declared_export_step (tree_maker names_by_place p) s.top n r) ≡ Some u → TidyBehind p g u
  declared-tidy n r u e =
      let m = mapped-some (λ (x : Step tree_reader). apply x s) (declared_export_step (tree_maker names_by_place p) s.top n r) u e in
      let v = mapped-some (enters exporting (extern_name n)) (new_there exporting (extern_name n) s.top (written (tree_maker names_by_place p) s.top r)) m.0 m.1 in
      let o = newly_there exporting (extern_name n) s.top (written (tree_maker names_by_place p) s.top r) v.0 v.1 in
      subst (TidyBehind p g) (ap (λ (x : Step tree_reader). apply x s) v.2 ∙ m.2)
      (apply-tidy p g (enters exporting (extern_name n) v.0) s all (enters-tidy p s.top leads g y unknown exporting (extern_name n) v.0 (written-tidy p s.top leads g y unknown r v.0 o.0)))
