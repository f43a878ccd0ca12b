-- A table stands behind items of each family.
use Rattle.std.proofs.Common.{◌≡◌, ℕ, zero, suc, ◌<◌, List, [], ◌∷◌, ◌++◌, map, refl, sym, subst, Bool, true, false, cond, Some, None}
use Rattle.std.specs.Prelude.{All, Option, not, slice_get, ◌&&◌}
use Rattle.std.specs.List.{list_all}
use Rattle.std.specs.Option.{option_map, option_and_then}
use Rattle.std.proofs.lemmas.List.Elements.{All-nil, All-cons, All-head, All-tail}
use Rattle.wcv_core.specs.CoreForm.{CompositeForm, Group}
use Rattle.wcv_core.specs.CoreGroups.{total}
use Rattle.wcv_core.specs.CoreJoining.{is_free, group_ids, grown}
use Rattle.wcv_core.specs.CoreWritten.{Core_entry, IsKnown, closed_group}
use Rattle.wcv_core.specs.Names.{Place}
use Rattle.wcv_core.specs.declared.core_types.EntityType.{EntityType}
use Rattle.wcv_core.specs.declared.features.WasmFeatures.{WasmFeatures}
use Rattle.wcv_syntax.specs.Model.{Form, core_type_item, core_module_item, core_instance_item, type_item, import_item, export_item, component_item, instance_item, alias_item, start_item, canon_item, Type_form, defined_type, func_type, component_type, instance_type, resource_type, Core_type_form, core_rec, core_module_type, Module_decl, Canon_form}
use Rattle.wcv_syntax.specs.ModuleTypes.{Made, empty_module, module_entries}
use Rattle.wcv_syntax.specs.declared.core_section.ExternalKind.{ExternalKind}
use Rattle.wcv_syntax.specs.declared.core_section.ExternalKind.TheVariants as kind
use Rattle.wcv_syntax.specs.declared.instance.ComponentOuterAliasKind.{ComponentOuterAliasKind}
use Rattle.wcv_syntax.specs.declared.instance.ComponentOuterAliasKind.TheVariants as outer
use Rattle.wcv_syntax.specs.declared.instance.ComponentAlias.{ComponentAlias}
use Rattle.wcv_syntax.specs.declared.instance.ComponentAlias.TheVariants as alias
use Rattle.wcv_types.specs.Tree.{Extern_name, Sort, is_nothing, is_value, is_resource, is_func, is_instance, is_component, is_type, is_module, is_core_instance, is_core_type, is_core_item, sort}
use Rattle.wcv_types.proofs.Lists.{some-inj}
use Rattle.wcv_flat.specs.Rows.{Ask, Appends, canon_row}
use Rattle.wcv_flat.specs.Rows as row
use Rattle.wcv_lower.specs.Aliases.{sort_named, instance_at, export_of, joining, is_charged, concrete_at, charged, outer_at, outer_joins, alias_step}
use Rattle.wcv_lower.specs.Canons.{func_at, row_form, alone, canon_found, func_joins, func_step, func_added, row_step, slots_typed, canon_step}
use Rattle.wcv_lower.specs.Checks.{is_none}
use Rattle.wcv_lower.specs.Context.{Side, importing, exporting, same_side, at_distance, is_concrete, core_types, core_modules}
use Rattle.wcv_lower.specs.CoreInstances as core
use Rattle.wcv_lower.specs.CoreInstances.{core_instance_made, core_instance_at, core_export_of, if_of, item_joins}
use Rattle.wcv_lower.specs.CoreItems.{core_entries, outer_entries, is_closable, may_join, types_join, closed_step, module_joins, core_type_made, core_type_step, module_made, core_module_made, core_module_step}
use Rattle.wcv_lower.specs.Entries.{extern_name, written, exported, exported_values, new_there}
use Rattle.wcv_lower.specs.Growth.{step, grow}
use Rattle.wcv_lower.specs.Instances.{instance_joins, instance_made, instance_values}
use Rattle.wcv_lower.specs.Marks.{value_at, uses_each, using}
use Rattle.wcv_lower.specs.Names.{Names}
use Rattle.wcv_lower.specs.Readers.{Maker, if_sort}
use Rattle.wcv_lower.specs.Start.{result_joins, start_joins}
use Rattle.wcv_lower.specs.Step.{core_appends, charges, defines, interns, types_slots, names_start, Step, Brought, change, apply, joins, enters, joins_types}
use Rattle.wcv_lower.specs.Tables.{StandsOver, TableStands}
use Rattle.wcv_lower.specs.Trees.{Type_tree, Tree_context, Tree_stack, tree_reader, tree_maker, core_entry}
use Rattle.wcv_lower.specs.Types.{type_made, added, dtor_stands, type_step}
use Rattle.wcv_lower.specs.Values.{type_of_sort}
use Rattle.wcv_lower.proofs.Bringing.{OfAny, of_some, any_mapped, any_cond, map-some}
use Rattle.wcv_lower.proofs.DeclaredLaws.{then-some}
use Rattle.wcv_lower.proofs.TableGroups.{joined_stands, ids_known, alone_stands}
use Rattle.wcv_lower.proofs.TableModules.{module_stands}
use Rattle.wcv_lower.proofs.TableSteps.{AllGood, step_stands, AllQuiet, quiet_good}

-- ## Of what is there

any_one : {A : Type 0} (o : Option A) → OfAny (λ x. Unit {0}) o
any_one None = tt
any_one (Some x) = tt

-- whatever is mapped
pub any_of : {A : Type 0} (P : Step tree_reader → Type 0) (f : A → Step tree_reader) → ((x : A) → P (f x)) → (o : Option A) → OfAny P (option_map f o)
any_of P f h o = any_mapped (λ x. Unit {0}) P f (λ x w. h x) o (any_one o)

-- where it is what was found
any_found : {A : Type 0} (P : Step tree_reader → Type 0) (f : A → Step tree_reader) (o : Option A) → ((x : A) → o ≡ Some x → P (f x)) → OfAny P (option_map f o)
any_found P f None h = tt
any_found P f (Some x) h = h x refl

-- what is mapped
at_mapped : {A B : Type 0} (P : B → Type 0) (f : A → B) (xs : List A) (k : ℕ) (x : A) → All P (map f xs) → slice_get xs k ≡ Some x → P (f x)
at_mapped P f [] k x w e = cc
at_mapped P f (y ∷ xs) zero x w e = subst (λ z. P (f z)) (some-inj e) (All-head P (f y) (map f xs) w)
at_mapped P f (y ∷ xs) (suc k) x w e = at_mapped P f xs k x (All-tail P (f y) (map f xs) w) e

any_if : (P : Step tree_reader → Type 0) (b : Bool) (x : Step tree_reader) → (b ≡ true → P x) → OfAny P (cond b (Some x) None)
any_if P true x h = h refl
any_if P false x h = tt

-- ## Items that bring no core type

joins_quiet : (used : Bool) (s : Sort) (x : Type_tree) → AllQuiet (joins tree_reader used s x)
joins_quiet used is_func x = (tt, tt)
joins_quiet used is_value x = (tt, (tt, tt))
joins_quiet used is_instance x = (tt, tt)
joins_quiet used is_component x = (tt, tt)
joins_quiet used is_type x = (tt, tt)
joins_quiet used is_module x = (tt, tt)
joins_quiet used is_resource x = tt
joins_quiet used is_nothing x = tt
joins_quiet used is_core_instance x = tt
joins_quiet used is_core_type x = tt
joins_quiet used is_core_item x = tt

pub enters_quiet : (d : Side) (n : Extern_name) (b : Brought tree_reader) → AllQuiet (enters d n b)
enters_quiet d n b = (tt, (tt, (tt, joins_quiet (same_side d exporting) (sort b.entity) b.entity)))

uses_quiet : (ks : List ℕ) (p : Step tree_reader) → AllQuiet p → AllQuiet (uses_each ks ++ p)
uses_quiet [] p q = q
uses_quiet (k ∷ ks) p q = (tt, uses_quiet ks p q)

using_quiet : (ks : List ℕ) (o : Option (Step tree_reader)) → OfAny AllQuiet o → OfAny AllQuiet (using ks o)
using_quiet ks o q = any_mapped AllQuiet AllQuiet (λ p. uses_each ks ++ p) (uses_quiet ks) o q

result_quiet : (o : Option Type_tree) → AllQuiet (result_joins {X = tree_reader} o)
result_quiet None = tt
result_quiet (Some x) = (tt, (tt, tt))

item_quiet : (k : ExternalKind) (e : EntityType) → AllQuiet (item_joins tree_reader k e)
item_quiet kind.Func e = (tt, tt)
item_quiet kind.Table e = (tt, tt)
item_quiet kind.Memory e = (tt, tt)
item_quiet kind.Global e = (tt, tt)
item_quiet kind.Tag e = (tt, tt)

outer_quiet : (s : Tree_stack) (n : ℕ) (x : Type_tree) (w : ComponentOuterAliasKind) → AllQuiet (outer_joins w x) → AllQuiet (charged s w n x ++ outer_joins w x)
outer_quiet s zero x w q = q
outer_quiet s (suc n) x w q = go (is_charged w && concrete_at n s)
  where
    go : (b : Bool) → AllQuiet (cond b (charges n (tree_reader.size x) ∷ []) [] ++ outer_joins w x)
    go true = (tt, q)
    go false = q

module _ (fs : WasmFeatures) (n : Names) (p : Place) (s : Tree_stack) (h : TableStands s) where
  abbrev mk : Maker tree_reader
  mk = tree_maker n p

  abbrev Fine : Step tree_reader → Type 0
  Fine q = AllGood q s

  pub quiet : (o : Option (Step tree_reader)) → OfAny AllQuiet o → OfAny Fine o
  quiet None w = tt
  quiet (Some q) w = quiet_good q s w

  type_quiet : (t : Type_form) → OfAny AllQuiet (type_step mk s.top t)
  type_quiet (defined_type d) = any_of AllQuiet (added mk) (λ x. (tt, tt)) (type_made s.top (defined_type d))
  type_quiet (func_type f) = any_of AllQuiet (added mk) (λ x. (tt, tt)) (type_made s.top (func_type f))
  type_quiet (component_type ds) = tt
  type_quiet (instance_type ds) = tt
  type_quiet (resource_type rep dtor) = any_cond AllQuiet (is_concrete s.top.kind && dtor_stands s.top dtor) (defines mk.resource (Some rep) ∷ joins_types mk.reference) (tt, (tt, tt))

  pub alias_good : (a : ComponentAlias) → OfAny Fine (alias_step s a)
  alias_good (alias.InstanceExport w i t) = quiet (alias_step s (alias.InstanceExport w i t)) (any_of AllQuiet joining (λ x. joins_quiet false (sort x) x) (option_and_then (if_sort tree_reader (sort_named w)) (option_and_then (export_of tree_reader t) (instance_at s.top i))))
  alias_good (alias.CoreInstanceExport w i t) = quiet (alias_step s (alias.CoreInstanceExport w i t)) (any_of AllQuiet (item_joins tree_reader w) (item_quiet w) (option_and_then (if_of w) (option_and_then (core_export_of tree_reader t) (core_instance_at s.top i))))
  alias_good (alias.Outer outer.CoreType k i) = any_found Fine (λ x. charged s outer.CoreType k x ++ outer_joins outer.CoreType x) (outer_at s outer.CoreType k i) (typed k)
    where
      known : (k : ℕ) (x : Type_tree) → outer_at s outer.CoreType k i ≡ Some x → IsKnown (total s.groups) (core_entry x)
      known k x e =
          let c = then-some (λ (c : Tree_context). slice_get (c.core core_types) i) (at_distance k s) x e in
          at_mapped (IsKnown (total s.groups)) core_entry (c.0.core core_types) i x (at_mapped (λ es. All (IsKnown (total s.groups)) es) core_entries (s.top ∷ s.outer) k c.0 h.known c.1) c.2

      typed : (k : ℕ) (x : Type_tree) → outer_at s outer.CoreType k i ≡ Some x → Fine (charged s outer.CoreType k x ++ outer_joins outer.CoreType x)
      typed zero x e = (known zero x e, tt)
      typed (suc k) x e = (known (suc k) x e, tt)
  alias_good (alias.Outer outer.CoreModule k i) = quiet (alias_step s (alias.Outer outer.CoreModule k i)) (any_of AllQuiet (λ x. charged s outer.CoreModule k x ++ outer_joins outer.CoreModule x) (λ x. outer_quiet s k x outer.CoreModule (tt, tt)) (outer_at s outer.CoreModule k i))
  alias_good (alias.Outer outer.Ty k i) = quiet (alias_step s (alias.Outer outer.Ty k i)) (any_of AllQuiet (λ x. charged s outer.Ty k x ++ outer_joins outer.Ty x) (λ x. outer_quiet s k x outer.Ty (tt, tt)) (outer_at s outer.Ty k i))
  alias_good (alias.Outer outer.Component k i) = quiet (alias_step s (alias.Outer outer.Component k i)) (any_of AllQuiet (λ x. charged s outer.Component k x ++ outer_joins outer.Component x) (λ x. outer_quiet s k x outer.Component (tt, tt)) (outer_at s outer.Component k i))

  -- ## Core types and core modules

  abbrev Top : List Core_entry → Type 0
  Top es = All (IsKnown (total s.groups)) es

  top_known : Top (core_entries s.top)
  top_known = All-head Top (core_entries s.top) (map core_entries s.outer) h.known

  types_good : (is : List ℕ) (t : Tree_stack) → All (λ i. i < total t.groups) is → AllGood (types_join tree_reader is) t
  types_good [] t w = tt
  types_good (i ∷ is) t w = (All-head (λ i. i < total t.groups) i is w, types_good is (change (core_appends core_types (tree_reader.core_type i)) t) (All-tail (λ i. i < total t.groups) i is w))

  group_good : (w : Group) → may_join s.groups (core_entries s.top) w ≡ true → Fine (closed_step tree_reader s.groups (closed_group (core_entries s.top) w))
  group_good w e =
      let g : Group = closed_group (core_entries s.top) w in
      (joined_stands s.groups (outer_entries s) (core_entries s.top) w h top_known e, types_good (group_ids s.groups g) (change (interns (grown s.groups g)) s) (ids_known s.groups g))

  -- behind declarations, the table stands over the open contexts
  made_stands : (outers : List (List Core_entry)) → ((k : ℕ) (es : List Core_entry) → slice_get outers k ≡ Some es → (j : ℕ) × (slice_get (outer_entries s) j ≡ Some es)) → (ds : List Module_decl) (m : Made) → module_made outers s.groups (empty_module fs) ds ≡ Some m → StandsOver m.0 (outer_entries s)
  made_stands outers among ds m e =
      let w : StandsOver m.0 (module_entries m.1 ∷ outer_entries s) = module_stands outers (outer_entries s) among s.groups (empty_module fs) ds m
      (record { table = h.table; forms = h.forms; known = All-cons Top [] (outer_entries s) (All-nil (IsKnown (total s.groups))) h.known }) e in
      record { table = w.table; forms = w.forms; known = All-tail (λ es. All (IsKnown (total m.0)) es) (module_entries m.1) (outer_entries s) w.known }

  core_type_good : (t : Core_type_form) → OfAny Fine (core_type_step fs mk s t)
  core_type_good (core_rec w) = any_if Fine (may_join s.groups (core_entries s.top) w) (closed_step tree_reader s.groups (closed_group (core_entries s.top) w)) (group_good w)
  core_type_good (core_module_type ds) =
      any_found Fine (module_joins mk core_types) (core_type_made fs s (core_module_type ds)) (λ m e. (made_stands (outer_entries s) (λ k es q. (k, q)) ds m e, (tt, tt)))

  core_module_good : (ds : List Module_decl) → OfAny Fine (core_module_step fs mk s ds)
  core_module_good ds = any_found Fine (module_joins mk core_modules) (core_module_made fs s ds) (λ m e. (made_stands [] (λ k es q. cc) ds m e, (tt, tt)))

  -- ## Canonical functions

  alone_good : (b : Bool) (f : CompositeForm) → is_closable s.groups (core_entries s.top) (alone b f) ≡ true → (t : Tree_stack) → outer_entries t ≡ outer_entries s → AllGood (func_joins tree_reader s.groups (closed_group (core_entries s.top) (alone b f))) t
  alone_good b f e t same =
      (subst (StandsOver (grown s.groups (closed_group (core_entries s.top) (alone b f)))) (sym same) (alone_stands s.groups (outer_entries s) (core_entries s.top) b f h top_known e), (tt, tt))

  -- whatever stands before the group, if it is no core type
  abbrev Behind : Step tree_reader → Type 0
  Behind q = (t : Tree_stack) → outer_entries t ≡ outer_entries s → AllGood q t

  func_good : (b : Bool) (o : Option CompositeForm) → OfAny Behind (option_and_then (λ w. func_step s (alone b w)) o)
  func_good b None = tt
  func_good b (Some f) = any_if Behind (is_closable s.groups (core_entries s.top) (alone b f)) (func_joins tree_reader s.groups (closed_group (core_entries s.top) (alone b f))) (alone_good b f)

  row_good : (f : Canon_form) (q : Appends) → OfAny Behind (row_step s f q)
  row_good f (row.lifted t) = any_of Behind func_added (λ x t same. (tt, tt)) (type_of_sort is_func s.top t)
  row_good f (row.lowered k) = func_good false (row_form s f (row.lowered k))
  row_good f (row.returning r) = func_good false (row_form s f (row.returning r))
  row_good f (row.core_func ps rs) = func_good false (row_form s f (row.core_func ps rs))
  row_good f (row.shared_func ps rs) = func_good true (row_form s f (row.shared_func ps rs))

  slots_good : (qs : List Ask) (q : Step tree_reader) → Behind q → Behind (slots_typed qs q)
  slots_good [] q w = w
  slots_good (row.slot_of v n ∷ qs) q w = λ t same. (tt, slots_good qs q w (change (types_slots v) t) same)
  slots_good (a ∷ qs) q w = slots_good qs q w

  canon_good : (f : Canon_form) → OfAny Fine (canon_step s f)
  canon_good f = go (is_free (canon_found s f)) (row_step s f (canon_row f).appends) (row_good f (canon_row f).appends)
    where
      go : (b : Bool) (o : Option (Step tree_reader)) → OfAny Behind o → OfAny Fine (cond b (option_map (slots_typed (canon_row f).asks) o) None)
      go true o w = any_mapped Behind Fine (slots_typed (canon_row f).asks) (λ q v. slots_good (canon_row f).asks q v s refl) o w
      go false o w = tt

  -- ## Items

  item_good : (f : Form) → OfAny Fine (step fs mk s f)
  item_good (type_item t) = quiet (type_step mk s.top t) (type_quiet t)
  item_good (import_item i) = quiet (step fs mk s (import_item i)) (any_of AllQuiet (enters importing (extern_name i.name)) (enters_quiet importing (extern_name i.name)) (new_there importing (extern_name i.name) s.top (written mk s.top i.ty)))
  item_good (export_item e) =
      quiet (step fs mk s (export_item e))
      (using_quiet (exported_values e) (option_map (enters exporting (extern_name e.name)) (new_there exporting (extern_name e.name) s.top (exported mk s.top e))) (any_of AllQuiet (enters exporting (extern_name e.name)) (enters_quiet exporting (extern_name e.name)) (new_there exporting (extern_name e.name) s.top (exported mk s.top e))))
  item_good (core_type_item t) = core_type_good t
  item_good (core_module_item ds) = core_module_good ds
  item_good (core_instance_item i) = quiet (step fs mk s (core_instance_item i)) (any_of AllQuiet (core.instance_joins mk) (λ x. (tt, tt)) (core_instance_made s i))
  item_good (instance_item i) = quiet (step fs mk s (instance_item i)) (using_quiet (instance_values i) (option_map instance_joins (instance_made mk s i)) (any_of AllQuiet instance_joins (λ x. (tt, (tt, tt))) (instance_made mk s i)))
  item_good (alias_item a) = alias_good a
  item_good (start_item f args k) =
      quiet (step fs mk s (start_item f args k))
      (start_quiet (list_all (λ k. not (is_none (value_at s.top k))) args) (func_at s.top f))
    where
      start_quiet : (b : Bool) (o : Option Type_tree) → OfAny AllQuiet (cond b (option_map (start_joins {X = tree_reader} args) o) None)
      start_quiet true o = any_of AllQuiet (start_joins {X = tree_reader} args) (λ x. uses_quiet args (names_start ∷ result_joins {X = tree_reader} (tree_reader.result x)) (tt, result_quiet (tree_reader.result x))) o
      start_quiet false o = tt
  item_good (canon_item c) = canon_good c
  item_good (component_item is end) = tt

  pub applied_stands : (o : Option (Step tree_reader)) → OfAny Fine o → (t : Tree_stack) → option_map (λ q. apply q s) o ≡ Some t → TableStands t
  applied_stands o g t e =
      let w = map-some (λ q. apply q s) o t e in
      subst TableStands (some-inj w.2) (step_stands w.0 s h (of_some Fine o w.0 g w.1))

  pub grown_stands : (f : Form) (t : Tree_stack) → grow fs mk s f ≡ Some t → TableStands t
  grown_stands f t e = applied_stands (step fs mk s f) (item_good f) t e
