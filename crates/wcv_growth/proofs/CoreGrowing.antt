-- What core items do to a context: they list no resource, and nothing is free in what they bring.
use Rattle.std.proofs.Common.{◌≡◌, ℕ, List, [], ◌∷◌, Bool, true, false, not, refl, subst, Some, None, inl, inr}
use Rattle.std.specs.Prelude.{Option, cond}
use Rattle.std.specs.Option.{option_map, option_and_then}
use Rattle.std.specs.List.{list_all}
use Rattle.std.proofs.lemmas.List.Elements.{All-nil}
use Rattle.wcv_core.specs.CoreForm.{Group}
use Rattle.wcv_core.specs.CoreJoining.{group_ids, grown}
use Rattle.wcv_core.specs.CoreWritten.{closed_group}
use Rattle.wcv_core.specs.Names.{Name, Place, base}
use Rattle.wcv_core.specs.declared.core_types.EntityType.{EntityType}
use Rattle.wcv_core.specs.declared.features.WasmFeatures.{WasmFeatures}
use Rattle.wcv_syntax.specs.Model.{Core_type_form, core_rec, core_module_type, Module_decl, Core_instance_form, core_instantiate, core_bag}
use Rattle.wcv_syntax.specs.declared.core_section.Export.{Export}
use Rattle.wcv_syntax.specs.declared.core_section.ExternalKind.{ExternalKind}
use Rattle.wcv_syntax.specs.declared.core_section.InstantiationArg.{InstantiationArg}
use Rattle.wcv_syntax.specs.ModuleTypes.{Module_type, Made}
use Rattle.wcv_types.specs.Resources.{RefersTo}
use Rattle.wcv_types.specs.Tree.{Text, Head, here, core_imports, core_exports, core_module, core_instance, core_type, core_item, sub_type, node, none, part}
use Rattle.wcv_types.specs.Unfold.{capped}
use Rattle.wcv_types.proofs.Lists.{some-inj}
use Rattle.wcv_lower.specs.Checks.{is_none}
use Rattle.wcv_lower.specs.Context.{Core_space, core_types, core_modules, core_instances, exporting}
use Rattle.wcv_lower.specs.CoreInstances.{space_of, core_module_at, core_instance_at, item_listed, items_listed, listed_size, module_instance, core_instance_made, instance_joins, core_instance_step, core_export_of, if_of, item_joins, core_alias_step}
use Rattle.wcv_lower.specs.CoreItems.{core_entries, may_join, types_join, closed_step, module_joins, core_type_made, core_module_made, core_type_step, core_module_step}
use Rattle.wcv_lower.specs.Names.{names_by_place}
use Rattle.wcv_lower.specs.Step.{core_appends, interns, Step, change, apply}
use Rattle.wcv_lower.specs.Readers.{New_node, core_instance_node, core_exports_node}
use Rattle.wcv_lower.specs.Trees.{Type_tree, Tree_stack, tree_reader, tree_maker, module_tree, node_tree, of_module, of_items}
use Rattle.wcv_lower.proofs.Bringing.{Brings, AllBring, brings_one, brings_more}
use Rattle.wcv_growth.proofs.Growing.{Ready, Does, SameLists, same-does}
use Rattle.wcv_growth.proofs.Known.{mapped-some, all-get, WithinParts, Fine, node-within, Any}
use Rattle.wcv_growth.proofs.Near.{Near, After, later-fine}
use Rattle.wcv_growth.proofs.Sound.{IsSoundNode, AreSound}

-- nothing is free in core items, and they are sound
exports-closed : (P : Name → Type 0) (es : List (Text × EntityType)) → WithinParts P (core_exports es none)
exports-closed P [] r x = absurd x
exports-closed P (e ∷ es) r (inl (inl x)) = absurd x
exports-closed P (e ∷ es) r (inl (inr x)) = absurd x.1
exports-closed P (e ∷ es) r (inr x) = exports-closed P es r x

imports-closed : (P : Name → Type 0) (is : List ((Text × Text) × EntityType)) (es : List (Text × EntityType)) → WithinParts P (core_imports is (core_exports es none))
imports-closed P [] es r x = exports-closed P es r x
imports-closed P (i ∷ is) es r (inl (inl x)) = absurd x
imports-closed P (i ∷ is) es r (inl (inr x)) = absurd x.1
imports-closed P (i ∷ is) es r (inr x) = imports-closed P is es r x

exports-sound : (es : List (Text × EntityType)) → AreSound (core_exports es none)
exports-sound [] = tt
exports-sound (e ∷ es) = (((tt, tt), tt), exports-sound es)

imports-sound : (is : List ((Text × Text) × EntityType)) (es : List (Text × EntityType)) → AreSound (core_imports is (core_exports es none))
imports-sound [] es = exports-sound es
imports-sound (i ∷ is) es = (((tt, tt), tt), imports-sound is es)

module _ (P : Name → Type 0) where
  leaf-fine : (h : Head Name Name) → ((r : Name) → RefersTo r h → ⊥) → IsSoundNode h none → Fine P (node h none)
  leaf-fine h n w = (node-within P h none n (λ r x. absurd x), (w, tt))

  pub item-fine : (e : EntityType) → Fine P (node (core_item e) none)
  item-fine e = leaf-fine (core_item e) (λ r x. x) (tt, tt)

  pub sub-fine : (i : ℕ) → Fine P (sub_type i)
  sub-fine i = leaf-fine (core_type i) (λ r x. x) (tt, tt)

  pub made-fine : (i : Name) (m : Module_type) → Fine P (module_tree i m)
  made-fine i m =
      (node-within P (core_module i (capped m.size)) (core_imports m.imports (core_exports m.exports none)) (λ r x. x) (imports-closed P m.imports m.exports), ((tt, tt), imports-sound m.imports m.exports))

  -- so in a core instance that lists core items; in one of a core module, what is free in that
  listed-fine : (i : Name) (n : ℕ) (es : List (Text × EntityType)) → Fine P (of_items i n es)
  listed-fine i n es = (node-within P (core_instance i (capped n)) (core_exports es none) (λ r x. x) (exports-closed P es), ((tt, tt), exports-sound es))

  of_module-fine : (i : Name) (n : ℕ) (t : Type_tree) → Fine P t → Fine P (of_module i n t)
  of_module-fine i n t w = (node-within P (core_instance i (capped n)) (part here t none) (λ r x. x) one, ((tt, tt), (w.1, tt)))
    where
      one : WithinParts P (part here t none)
      one r (inl x) = w.0 r x
      one r (inr x) = absurd x

pub if-some : {A : Type 0} (b : Bool) (o : Option A) (x : A) → cond b o None ≡ Some x → o ≡ Some x
if-some true o x e = e
if-some false o x e = cc

types-bring : (P : Name → Type 0) (is : List ℕ) → AllBring (Fine P) Any (types_join tree_reader is)
types-bring P [] = All-nil (Brings (Fine P) Any)
types-bring P (i ∷ is) = brings_more (Fine P) Any (core_appends core_types (sub_type i)) (types_join tree_reader is) (sub-fine P i) (types-bring P is)

-- core types change no list
types-same : (is : List ℕ) (s : Tree_stack) → SameLists s.top (apply (types_join tree_reader is) s).top
types-same [] s = record { imported = refl; defined = refl; imports = refl; exports = refl }
types-same (i ∷ is) s =
    let h = types-same is (change (core_appends core_types (sub_type i)) s) in
    record { imported = h.imported; defined = h.defined; imports = h.imports; exports = h.exports }

module _ (p : Place) (s : Tree_stack) (h : Ready p s) where
  closed-does : (g : Group) → Does exporting p s (closed_step tree_reader s.groups g)
  closed-does g =
      let x : Step tree_reader = closed_step tree_reader s.groups g in
      let same = types-same (group_ids s.groups g) (change (interns (grown s.groups g)) s) in
      same-does p s h x (brings_more (Fine (After x s)) Any (interns (grown s.groups g)) (types_join tree_reader (group_ids s.groups g)) tt (types-bring (After x s) (group_ids s.groups g)))
      (record { imported = same.imported; defined = same.defined; imports = same.imports; exports = same.exports })

  module-does : (k : Core_space) (o : Option Made) (x : Step tree_reader) → option_map (module_joins (tree_maker names_by_place p) k) o ≡ Some x → Does exporting p s x
  module-does k o x e =
      let m = mapped-some (module_joins (tree_maker names_by_place p) k) o x e in
      subst (Does exporting p s) m.2 (joins m.0)
    where
      joins : (m : Made) → Does exporting p s (module_joins (tree_maker names_by_place p) k m)
      joins m =
          let y : Step tree_reader = module_joins (tree_maker names_by_place p) k m in
          same-does p s h y
          (brings_more (Fine (After y s)) Any (interns m.0) (core_appends k (module_tree (base p) m.1) ∷ []) tt (brings_one (Fine (After y s)) Any (core_appends k (module_tree (base p) m.1)) (made-fine (After y s) (base p) m.1)))
          (record { imported = refl; defined = refl; imports = refl; exports = refl })

  pub core_type-does : (fs : WasmFeatures) (t : Core_type_form) (x : Step tree_reader) → core_type_step fs (tree_maker names_by_place p) s t ≡ Some x → Does exporting p s x
  core_type-does fs (core_rec w) x e = go (may_join s.groups (core_entries s.top) w) e
    where
      go : (b : Bool) → cond b (Some (closed_step tree_reader s.groups (closed_group (core_entries s.top) w))) None ≡ Some x → Does exporting p s x
      go true k = subst (Does exporting p s) (some-inj k) (closed-does (closed_group (core_entries s.top) w))
      go false k = cc
  core_type-does fs (core_module_type ds) x e = module-does core_types (core_type_made fs s (core_module_type ds)) x e

  pub core_module-does : (fs : WasmFeatures) (ds : List Module_decl) (x : Step tree_reader) → core_module_step fs (tree_maker names_by_place p) s ds ≡ Some x → Does exporting p s x
  core_module-does fs ds x e = module-does core_modules (core_module_made fs s ds) x e

  -- ## Core instances

  abbrev joins_as : New_node tree_reader → Step tree_reader
  joins_as n = instance_joins (tree_maker names_by_place p) n

  node-does : (n : New_node tree_reader) → Fine (After (joins_as n) s) (node_tree (base p) n) → Does exporting p s (joins_as n)
  node-does n w = same-does p s h (joins_as n) (brings_one (Fine (After (joins_as n) s)) Any (core_appends core_instances (node_tree (base p) n)) w) (record { imported = refl; defined = refl; imports = refl; exports = refl })

  pub core_instance-does : (i : Core_instance_form) (x : Step tree_reader) → core_instance_step (tree_maker names_by_place p) s i ≡ Some x → Does exporting p s x
  core_instance-does (core_instantiate i args) x e =
      let m = mapped-some joins_as (core_instance_made s (core_instantiate i args)) x e in
      let o = if-some (list_all (λ (a : InstantiationArg). not (is_none (core_instance_at s.top a.index))) args) (option_map (module_instance tree_reader s.groups) (core_module_at s.top i)) m.0 m.1 in
      let t = mapped-some (module_instance tree_reader s.groups) (core_module_at s.top i) m.0 o in
      let k : ℕ = listed_size s.groups (tree_reader.core_exports t.0) in
      let y : Step tree_reader = joins_as (core_instance_node k t.0) in
      let w : Fine (After y s) t.0 = later-fine y s t.0 (all-get (Fine (Near s)) (s.top.core core_modules) i t.0 (h.fine.0.entries.core core_modules) t.1) in
      subst (Does exporting p s) m.2 (subst (λ (n : New_node tree_reader). Does exporting p s (joins_as n)) t.2 (node-does (core_instance_node k t.0) (of_module-fine (After y s) (base p) k t.0 w)))
  core_instance-does (core_bag es) x e =
      let m = mapped-some joins_as (core_instance_made s (core_bag es)) x e in
      let k : ℕ = listed_size s.groups (items_listed s.top es) in
      let n : New_node tree_reader = core_exports_node k (items_listed s.top es) in
      let o = if-some (list_all (λ (e : Export). not (is_none (item_listed s.top e))) es) (Some n) m.0 m.1 in
      subst (Does exporting p s) m.2
      (subst (λ (n : New_node tree_reader). Does exporting p s (joins_as n)) (some-inj o) (node-does n (listed-fine (After (joins_as n) s) (base p) k (items_listed s.top es))))

  -- ## Aliases

  pub core_alias-does : (k : ExternalKind) (i : ℕ) (n : Text) (x : Step tree_reader) → core_alias_step s.top k i n ≡ Some x → Does exporting p s x
  core_alias-does k i n x e =
      let m = mapped-some (item_joins tree_reader k) (option_and_then (if_of k) (option_and_then (core_export_of tree_reader n) (core_instance_at s.top i))) x e in
      let y : Step tree_reader = item_joins tree_reader k m.0 in
      subst (Does exporting p s) m.2
      (same-does p s h y (brings_one (Fine (After y s)) Any (core_appends (space_of k) (tree_reader.core_item m.0)) (item-fine (After y s) m.0)) (record { imported = refl; defined = refl; imports = refl; exports = refl }))
