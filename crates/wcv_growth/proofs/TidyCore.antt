-- What core items and canonical functions bring to a context is tidy.
use Rattle.std.proofs.Common.{◌≡◌, ℕ, List, [], ◌∷◌, Bool, true, false, not, cond, refl, subst, Some, None}
use Rattle.std.specs.Prelude.{Option}
use Rattle.std.specs.Option.{option_map, option_and_then}
use Rattle.std.specs.List.{list_all}
use Rattle.std.proofs.lemmas.List.Elements.{All-nil}
use Rattle.wcv_core.specs.CoreForm.{Group}
use Rattle.wcv_core.specs.CoreJoining.{first_id, group_ids, grown}
use Rattle.wcv_core.specs.CoreWritten.{closed_group}
use Rattle.wcv_core.specs.Names.{Place, base}
use Rattle.wcv_core.specs.declared.core_types.EntityType.{EntityType}
use Rattle.wcv_core.specs.declared.core_types.EntityType.TheVariants as entity
use Rattle.wcv_core.specs.declared.features.WasmFeatures.{WasmFeatures}
use Rattle.wcv_syntax.specs.Model.{Core_type_form, core_rec, core_module_type, Module_decl, Core_instance_form, core_instantiate, core_bag, Canon_form}
use Rattle.wcv_syntax.specs.declared.core_section.Export.{Export}
use Rattle.wcv_syntax.specs.declared.core_section.ExternalKind.{ExternalKind}
use Rattle.wcv_syntax.specs.declared.core_section.InstantiationArg.{InstantiationArg}
use Rattle.wcv_syntax.specs.ModuleTypes.{Made}
use Rattle.wcv_types.specs.Tree.{Text, is_func, here, core_import, core_export, core_imports, core_exports, core_module, core_instance, core_type, core_item, sub_type, node, none, part}
use Rattle.wcv_types.specs.Unfold.{capped}
use Rattle.wcv_types.proofs.Lists.{some-inj}
use Rattle.wcv_matching.specs.Formed.{ItemsAlone}
use Rattle.wcv_lower.specs.Canons.{alone, func_joins, canon_step}
use Rattle.wcv_lower.specs.Checks.{is_none}
use Rattle.wcv_lower.specs.Context.{in_funcs, Core_space, core_types, core_funcs, core_modules, core_instances}
use Rattle.wcv_lower.specs.CoreInstances.{space_of, core_module_at, core_instance_at, item_listed, items_listed, listed_size, module_instance, core_instance_made, instance_joins, core_instance_step, core_export_of, if_of, item_joins, core_alias_step}
use Rattle.wcv_lower.specs.CoreItems.{core_entries, may_join, types_join, closed_step, module_joins, core_type_made, core_module_made, core_type_step, core_module_step}
use Rattle.wcv_lower.specs.Names.{names_by_place}
use Rattle.wcv_lower.specs.Owned.{AllEntries}
use Rattle.wcv_lower.specs.Readers.{New_node, core_instance_node, core_exports_node}
use Rattle.wcv_lower.specs.Step.{appends, core_appends, interns, types_slots, Step}
use Rattle.wcv_lower.specs.Trees.{Type_tree, Tree_stack, tree_reader, tree_maker, module_tree, node_tree}
use Rattle.wcv_lower.proofs.Bringing.{Brings, AllBring, brings_one, brings_more}
use Rattle.wcv_lower.proofs.SidesKept.{no_names}
use Rattle.wcv_growth.proofs.Bare.{OwnsNothing}
use Rattle.wcv_growth.proofs.CanonGrowing.{canon-holds}
use Rattle.wcv_growth.proofs.CoreGrowing.{if-some}
use Rattle.wcv_growth.proofs.Known.{mapped-some, all-get, Any}
use Rattle.wcv_growth.proofs.Tidy.{Known, TidyType, TidyEntry, NoneAt, BringsTidy, brings-known}
use Rattle.wcv_growth.proofs.TidyTypes.{AreInner, inner-named, AreTidy, leaf-tidy, one-more, with_node, knows-node, node-tidy, NodeTidy, plain-tidy}

-- the parts of a core module, and of a core instance
exports-inner : (es : List (Text × EntityType)) → AreInner (core_exports es none)
exports-inner [] = tt
exports-inner (e ∷ es) = (tt, exports-inner es)

imports-inner : (is : List ((Text × Text) × EntityType)) (es : List (Text × EntityType)) → AreInner (core_imports is (core_exports es none))
imports-inner [] es = exports-inner es
imports-inner (i ∷ is) es = (tt, imports-inner is es)

exports-alone : (es : List (Text × EntityType)) → ItemsAlone (core_exports es none)
exports-alone [] = tt
exports-alone (e ∷ es) = ((e.1, refl), exports-alone es)

items-alone : (is : List ((Text × Text) × EntityType)) (es : List (Text × EntityType)) → ItemsAlone (core_imports is (core_exports es none))
items-alone [] es = exports-alone es
items-alone (i ∷ is) es = ((i.1, refl), items-alone is es)

module _ (g : Known) where
  -- core items
  item-tidy : (e : EntityType) → TidyEntry g (node (core_item e) none)
  item-tidy e = (refl, leaf-tidy g (core_item e) tt tt tt (λ i q. cc))

  exports-tidy : (es : List (Text × EntityType)) → AreTidy g (core_exports es none)
  exports-tidy [] = (tt, tt)
  exports-tidy (e ∷ es) = one-more g (core_export e.0) (node (core_item e.1) none) (core_exports es none) (item-tidy e.1) (exports-tidy es)

  imports-tidy : (is : List ((Text × Text) × EntityType)) (es : List (Text × EntityType)) → AreTidy g (core_imports is (core_exports es none))
  imports-tidy [] es = exports-tidy es
  imports-tidy (i ∷ is) es = one-more g (core_import i.0.0 i.0.1) (node (core_item i.1) none) (core_imports is (core_exports es none)) (item-tidy i.1) (imports-tidy is es)

  -- core types
  types-bring : (is : List ℕ) → AllBring (TidyEntry g) Any (types_join tree_reader is)
  types-bring [] = All-nil (Brings (TidyEntry g) Any)
  types-bring (i ∷ is) = brings_more (TidyEntry g) Any (core_appends core_types (sub_type i)) (types_join tree_reader is) (refl, leaf-tidy g (core_type i) tt tt tt (λ n q. cc)) (types-bring is)

module _ (p : Place) (s : Tree_stack) (g : Known) (y : AllEntries (TidyEntry g) s.top) (unknown : NoneAt p g) where
  closed-tidy : (c : Group) → BringsTidy p g (closed_step tree_reader s.groups c)
  closed-tidy c = brings-known p g (closed_step tree_reader s.groups c) (brings_more (TidyEntry g) Any (interns (grown s.groups c)) (types_join tree_reader (group_ids s.groups c)) tt (types-bring g (group_ids s.groups c)))

  module-tidy : (k : Core_space) (o : Option Made) (x : Step tree_reader) → option_map (module_joins (tree_maker names_by_place p) k) o ≡ Some x → BringsTidy p g x
  module-tidy k o x e =
      let m = mapped-some (module_joins (tree_maker names_by_place p) k) o x e in
      subst (BringsTidy p g) m.2 (joins m.0)
    where
      joins : (m : Made) → BringsTidy p g (module_joins (tree_maker names_by_place p) k m)
      joins m =
          let t : Type_tree = module_tree (base p) m.1 in
          let f : Known = with_node p g t in
          let w : TidyType f t = node-tidy p g unknown (core_module (base p) (capped m.1.size)) (core_imports m.1.imports (core_exports m.1.exports none)) refl tt (items-alone m.1.imports m.1.exports) tt
          (inner-named (core_imports m.1.imports (core_exports m.1.exports none)) (imports-inner m.1.imports m.1.exports)) (imports-tidy g m.1.imports m.1.exports) in
          record {
            known = f;
            more = knows-node p g unknown t;
            brings = brings_more (TidyEntry f) Any (interns m.0) (core_appends k t ∷ []) tt (brings_one (TidyEntry f) Any (core_appends k t) (refl, w));
          }

  pub core_type-tidy : (fs : WasmFeatures) (t : Core_type_form) (x : Step tree_reader) → core_type_step fs (tree_maker names_by_place p) s t ≡ Some x → BringsTidy p g x
  core_type-tidy fs (core_rec w) x e = go (may_join s.groups (core_entries s.top) w) e
    where
      go : (b : Bool) → cond b (Some (closed_step tree_reader s.groups (closed_group (core_entries s.top) w))) None ≡ Some x → BringsTidy p g x
      go true k = subst (BringsTidy p g) (some-inj k) (closed-tidy (closed_group (core_entries s.top) w))
      go false k = cc
  core_type-tidy fs (core_module_type ds) x e = module-tidy core_types (core_type_made fs s (core_module_type ds)) x e

  pub core_module-tidy : (fs : WasmFeatures) (ds : List Module_decl) (x : Step tree_reader) → core_module_step fs (tree_maker names_by_place p) s ds ≡ Some x → BringsTidy p g x
  core_module-tidy fs ds x e = module-tidy core_modules (core_module_made fs s ds) x e

  -- ## Core instances

  abbrev joins_as : New_node tree_reader → Step tree_reader
  joins_as n = instance_joins (tree_maker names_by_place p) n

  abbrev Joins : New_node tree_reader → Type 0
  Joins n = BringsTidy p g (joins_as n)

  instance-joins : (n : New_node tree_reader) → OwnsNothing (node_tree (base p) n) → NodeTidy p g n → Joins n
  instance-joins n o w =
      let t : Type_tree = node_tree (base p) n in
      record { known = with_node p g t; more = knows-node p g unknown t; brings = brings_one (TidyEntry (with_node p g t)) Any (core_appends core_instances t) (o, w) }

  pub core_instance-tidy : (i : Core_instance_form) (x : Step tree_reader) → core_instance_step (tree_maker names_by_place p) s i ≡ Some x → BringsTidy p g x
  core_instance-tidy (core_instantiate i args) x e =
      let m = mapped-some joins_as (core_instance_made s (core_instantiate i args)) x e in
      let o = if-some (list_all (λ (a : InstantiationArg). not (is_none (core_instance_at s.top a.index))) args) (option_map (module_instance tree_reader s.groups) (core_module_at s.top i)) m.0 m.1 in
      let t = mapped-some (module_instance tree_reader s.groups) (core_module_at s.top i) m.0 o in
      let k : ℕ = listed_size s.groups (tree_reader.core_exports t.0) in
      let w : TidyEntry g t.0 = all-get (TidyEntry g) (s.top.core core_modules) i t.0 (y.core core_modules) t.1 in
      subst (BringsTidy p g) m.2
      (subst Joins t.2 (instance-joins (core_instance_node k t.0) refl (node-tidy p g unknown (core_instance (base p) (capped k)) (part here t.0 none) refl tt tt tt (no_names, no_names) (one-more g here t.0 none w (tt, tt)))))
  core_instance-tidy (core_bag es) x e =
      let m = mapped-some joins_as (core_instance_made s (core_bag es)) x e in
      let k : ℕ = listed_size s.groups (items_listed s.top es) in
      let n : New_node tree_reader = core_exports_node k (items_listed s.top es) in
      let o = if-some (list_all (λ (e : Export). not (is_none (item_listed s.top e))) es) (Some n) m.0 m.1 in
      subst (BringsTidy p g) m.2
      (subst Joins (some-inj o) (instance-joins n refl (node-tidy p g unknown (core_instance (base p) (capped k)) (core_exports (items_listed s.top es) none) refl tt tt tt (inner-named (core_exports (items_listed s.top es) none) (exports-inner (items_listed s.top es))) (exports-tidy g (items_listed s.top es)))))

  -- ## Aliases

  pub core_alias-tidy : (k : ExternalKind) (i : ℕ) (n : Text) (x : Step tree_reader) → core_alias_step s.top k i n ≡ Some x → BringsTidy p g x
  core_alias-tidy k i n x e =
      let m = mapped-some (item_joins tree_reader k) (option_and_then (if_of k) (option_and_then (core_export_of tree_reader n) (core_instance_at s.top i))) x e in
      subst (BringsTidy p g) m.2 (brings-known p g (item_joins tree_reader k m.0) (brings_one (TidyEntry g) Any (core_appends (space_of k) (tree_reader.core_item m.0)) (item-tidy g m.0)))

  -- ## Canonical functions

  core-brings : (c : Group) → AllBring (TidyEntry g) Any (func_joins tree_reader s.groups c)
  core-brings c =
      let e : EntityType = entity.Func (record { index = first_id s.groups c }) in
      brings_more (TidyEntry g) Any (interns (grown s.groups c)) (core_appends core_funcs (tree_reader.core_item e) ∷ []) tt (brings_one (TidyEntry g) Any (core_appends core_funcs (tree_reader.core_item e)) (item-tidy g e))

  pub canon-tidy : (f : Canon_form) (x : Step tree_reader) → canon_step s f ≡ Some x → BringsTidy p g x
  canon-tidy f x e =
      brings-known p g x
      (canon-holds s (AllBring (TidyEntry g) Any) (λ v z w. brings_more (TidyEntry g) Any (types_slots v) z tt w) (λ b w. core-brings (closed_group (core_entries s.top) (alone b w)))
      (λ k t q. brings_one (TidyEntry g) Any (appends in_funcs t) (plain-tidy g s.top y is_func k t refl q)) f x e)
