-- In each open context the names of a side differ still behind an item: a step lists one entry at most, and under a name that is new there.
use Rattle.std.proofs.Common.{◌≡◌, ℕ, zero, suc, List, [], ◌∷◌, ◌++◌, Bool, true, false, cond, ◌&&◌, not, bytes_eq, refl, sym, ◌∙◌, ap, subst, Option, Some, None, ◌⊎◌, inl, inr}
use Rattle.std.specs.List.{IsDistinct, list_all}
use Rattle.std.specs.Map.{keys_of}
use Rattle.std.specs.Option.{option_map, option_and_then}
use Rattle.std.proofs.lemmas.Cmp.{nat_list_eq_equiv}
use Rattle.std.proofs.lemmas.List.{map-append}
use Rattle.std.proofs.lemmas.Map.Keys.{IsDistinct-push}
use Rattle.wcv_core.specs.CoreForm.{CompositeForm}
use Rattle.wcv_core.specs.CoreJoining.{group_ids}
use Rattle.wcv_core.specs.CoreWritten.{closed_group}
use Rattle.wcv_core.specs.Names.{Name, Place, deeper}
use Rattle.wcv_core.specs.declared.features.WasmFeatures.{WasmFeatures}
use Rattle.wcv_syntax.specs.Model.{Canon_form, Form, core_type_item, core_module_item, core_instance_item, type_item, import_item, export_item, component_item, instance_item, alias_item, start_item, canon_item, Type_form, defined_type, func_type, component_type, instance_type, resource_type, Core_type_form, core_rec, core_module_type, Decl, core_type_decl, type_decl, alias_decl, export_decl, import_decl, Decls, no_decls, declare, Items, no_items, next_item}
use Rattle.wcv_syntax.specs.declared.instance.ComponentAlias.{ComponentAlias}
use Rattle.wcv_syntax.specs.declared.instance.ComponentAlias.TheVariants as alias
use Rattle.wcv_syntax.specs.declared.instance.ComponentOuterAliasKind.{ComponentOuterAliasKind}
use Rattle.wcv_syntax.specs.declared.instance.ComponentOuterAliasKind.TheVariants as outer
use Rattle.wcv_syntax.specs.declared.name.ComponentExport.{ComponentExport}
use Rattle.wcv_types.specs.ByName.{NamesDiffer}
use Rattle.wcv_types.specs.Tree.{Text, Extern_name, Sort, is_nothing, is_value, is_resource, is_func, is_instance, is_component, is_type, is_module, is_core_instance, is_core_type, is_core_item, sort}
use Rattle.wcv_types.proofs.Lists.{some-inj}
use Rattle.wcv_matching.specs.Matching.{named}
use Rattle.wcv_names.specs.Externs.{entry_names}
use Rattle.wcv_flat.specs.Rows.{Ask, Appends, canon_row}
use Rattle.wcv_flat.specs.Rows as row
use Rattle.wcv_lower.specs.Aliases.{sort_named, instance_at, export_of, joining, outer_at, outer_joins, is_charged, concrete_at, charged, alias_step}
use Rattle.wcv_lower.specs.Canons.{row_form, alone, func_at, func_added, func_step, row_step, slots_typed, canon_step}
use Rattle.wcv_lower.specs.Checks.{is_among, has_repeat, is_none}
use Rattle.wcv_lower.specs.Context.{Kind, concrete, declares_instance, declares_component, core_types, core_modules, Side, importing, exporting, same_side, push, push_core, enlist, introduce, define, name_types, charge, type_slots, mark, name_start}
use Rattle.wcv_lower.specs.CoreInstances.{core_instance_made, core_export_of, core_instance_at, if_of, item_joins}
use Rattle.wcv_lower.specs.CoreInstances as core
use Rattle.wcv_lower.specs.CoreItems.{types_join, module_joins, core_type_made, core_module_made, core_type_step}
use Rattle.wcv_lower.specs.Declared.{Makers, inside, around, closed_as, ended, applied, declared_export_step, read_type, read_decl, read_decls}
use Rattle.wcv_lower.specs.Ending.{declared_made}
use Rattle.wcv_lower.specs.Entries.{extern_name, written, exported, new_there, exported_values}
use Rattle.wcv_lower.specs.Growth.{step}
use Rattle.wcv_lower.specs.Instances.{instance_made, instance_joins, instance_values, listed, bag_made}
use Rattle.wcv_lower.specs.Items.{read_item, read_items}
use Rattle.wcv_lower.specs.Marks.{value_at, uses_each, using, marked}
use Rattle.wcv_lower.specs.Readers.{New_node, instance_node, if_sort}
use Rattle.wcv_lower.specs.SideNames.{SidesDiffer, AllSidesDiffer}
use Rattle.wcv_lower.specs.Start.{result_joins, start_joins, start_step}
use Rattle.wcv_lower.specs.Step.{Change, appends, lists, introduces, defines, creates, core_appends, interns, charges, types_slots, marks_value, uses_value, names_start, Step, on_top, on_outer, use_value, change, apply, Brought, joins, enters}
use Rattle.wcv_lower.specs.Trees.{Type_tree, Entries, Tree_context, Tree_stack, tree_reader}
use Rattle.wcv_lower.specs.Types.{type_made, added, type_step}
use Rattle.wcv_lower.specs.Values.{type_of_sort}
use Rattle.wcv_lower.proofs.Applied.{change_at_cases}
use Rattle.wcv_lower.proofs.Bringing.{OfAny, of_some, map-some, any_mapped, any_cond, any_if}
use Rattle.wcv_lower.proofs.Calm.{stood}
use Rattle.wcv_lower.proofs.DeclaredLaws.{then-some}
use Rattle.wcv_lower.proofs.MarkLaws.{uses-applied, apply-append}
use Rattle.wcv_lower.proofs.OnceSteps.{any_is}
use Rattle.wcv_lower.proofs.Repeats.{any_among, repeats_differ}

-- ## Entries

pub no_names : NamesDiffer {V = Type_tree} []
unfolding IsDistinct
no_names = tt

names_of : (es : Entries) → keys_of (named es) ≡ entry_names es
names_of [] = refl
names_of (e ∷ es) = ap (λ (ns : List Text). e.0.name ∷ ns) (names_of es)

-- one more, under a new name
differ_joined : (es : Entries) (e : Extern_name × Type_tree) → NamesDiffer (named es) → is_among e.0.name (entry_names es) ≡ false → NamesDiffer (named (es ++ e ∷ []))
differ_joined es e d n =
    subst (IsDistinct bytes_eq) (sym (names_of (es ++ e ∷ []) ∙ map-append (λ (x : Extern_name × Type_tree). x.0.name) es (e ∷ [])))
    (IsDistinct-push nat_list_eq_equiv (entry_names es) e.0.name (subst (IsDistinct bytes_eq) (names_of es) d) (any_among e.0.name (entry_names es) ∙ n))

-- those that an instance lists
abbrev bag_of : Entries → New_node tree_reader
bag_of es = instance_node [] es

pub bag_differs : (c : Tree_context) (es : List ComponentExport) (n : New_node tree_reader) → bag_made c es ≡ Some n → (n ≡ bag_of (listed c es)) × NamesDiffer (named (listed c es))
bag_differs c es n e = go (has_repeat (entry_names xs)) _ _ refl e
  where
    xs : Entries
    xs = listed c es

    go : (a b there : Bool) → has_repeat (entry_names xs) ≡ a → cond (not a && b) (cond there (Some (bag_of xs)) None) None ≡ Some n → (n ≡ bag_of xs) × NamesDiffer (named xs)
    go false true true w h = (sym (some-inj h), subst (IsDistinct bytes_eq) (sym (names_of xs)) (repeats_differ (entry_names xs) w))
    go false true false w h = cc
    go false false there w h = cc
    go true b there w h = cc

-- ## Contexts

top_differ : (f : Tree_context → Tree_context) (s : Tree_stack) → AllSidesDiffer s → SidesDiffer (f s.top) → AllSidesDiffer (on_top f s)
top_differ f s h w zero c e = subst SidesDiffer (some-inj e) w
top_differ f s h w (suc j) c e = h (suc j) c e

outer_differ : (k n : ℕ) (s : Tree_stack) → AllSidesDiffer s → AllSidesDiffer (on_outer k (charge n) s)
outer_differ zero n s h j c e = top_differ (charge n) s h (h zero s.top refl) j c e
outer_differ (suc k) n s h zero c e = h zero c e
outer_differ (suc k) n s h (suc j) c e =
    let w = change_at_cases k (charge {X = tree_reader} n) s.outer j c e in
    go w.0 (h (suc j) w.0 w.1) w.2
  where
    go : (d : Tree_context) → SidesDiffer d → (d ≡ c) ⊎ (charge {X = tree_reader} n d ≡ c) → SidesDiffer c
    go d a (inl q) = subst SidesDiffer q a
    go d a (inr q) = subst SidesDiffer q a

-- a context opens, in which nothing is listed yet, or the top one leaves
pub inside_differ : (k : Kind) (s : Tree_stack) → AllSidesDiffer s → AllSidesDiffer (inside {X = tree_reader} k s)
inside_differ k s h zero c e = subst SidesDiffer (some-inj e) (λ d. no_names)
inside_differ k s h (suc j) c e = h j c e

around_differ : (u t : Tree_stack) → around u ≡ Some t → AllSidesDiffer u → AllSidesDiffer t
around_differ u t w h j c e = h (suc j) c (stood u t w j c e)

-- ## Changes that list no entry

abbrev IsQuiet : Change tree_reader → Type 0
IsQuiet (lists d n t) = ⊥
IsQuiet x = Unit {0}

abbrev AllQuiet : Step tree_reader → Type 0
AllQuiet [] = Unit {0}
AllQuiet (x ∷ p) = IsQuiet x × AllQuiet p

both_quiet : (p q : Step tree_reader) → AllQuiet p → AllQuiet q → AllQuiet (p ++ q)
both_quiet [] q v w = w
both_quiet (x ∷ p) q v w = (v.0, both_quiet p q v.1 w)

uses_quiet : (ks : List ℕ) (p : Step tree_reader) → AllQuiet p → AllQuiet (uses_each ks ++ p)
uses_quiet [] p w = w
uses_quiet (k ∷ ks) p w = (tt, uses_quiet ks p w)

introduced_side : (d e : Side) (rs : List (Name × List ℕ)) (c : Tree_context) → (introduce {X = tree_reader} d rs c).side e ≡ c.side e
introduced_side importing e rs c = refl
introduced_side exporting e rs c = refl

introduced_differ : (d : Side) (rs : List (Name × List ℕ)) (c : Tree_context) → SidesDiffer c → SidesDiffer (introduce {X = tree_reader} d rs c)
introduced_differ importing rs c h = h
introduced_differ exporting rs c h = h

change_differ : (x : Change tree_reader) (s : Tree_stack) → IsQuiet x → AllSidesDiffer s → AllSidesDiffer (change x s)
change_differ (appends k t) s q h = top_differ (push k t) s h (h zero s.top refl)
change_differ (lists d n t) s q h = absurd q
change_differ (introduces d rs) s q h = top_differ (introduce d rs) s h (introduced_differ d rs s.top (h zero s.top refl))
change_differ (defines r v) s q h = top_differ (define r v) s h (h zero s.top refl)
change_differ (creates d is) s q h = top_differ (name_types d is) s h (h zero s.top refl)
change_differ (core_appends k t) s q h = top_differ (push_core k t) s h (h zero s.top refl)
change_differ (interns gs) s q h = h
change_differ (charges k n) s q h = outer_differ k n s h
change_differ (types_slots v) s q h = top_differ (type_slots v) s h (h zero s.top refl)
change_differ (marks_value b) s q h = top_differ (mark b) s h (h zero s.top refl)
change_differ (uses_value k) s q h = top_differ (use_value k) s h (h zero s.top refl)
change_differ names_start s q h = top_differ name_start s h (h zero s.top refl)

quiet_differ : (p : Step tree_reader) (s : Tree_stack) → AllQuiet p → AllSidesDiffer s → AllSidesDiffer (apply p s)
quiet_differ [] s q h = h
quiet_differ (x ∷ p) s q h = quiet_differ p (change x s) q.1 (change_differ x s q.0 h)

-- ## An entry of a side

enlisted_differ : (d : Side) (n : Extern_name) (t : Type_tree) (c : Tree_context) → is_among n.name (entry_names (c.side d)) ≡ false → SidesDiffer c → SidesDiffer (enlist {X = tree_reader} d n t c)
enlisted_differ importing n t c new h importing = differ_joined (c.side importing) (n, t) (h importing) new
enlisted_differ importing n t c new h exporting = h exporting
enlisted_differ exporting n t c new h importing = h importing
enlisted_differ exporting n t c new h exporting = differ_joined (c.side exporting) (n, t) (h exporting) new

joins_quiet : (used : Bool) (o : Sort) (t : Type_tree) → AllQuiet (joins tree_reader used o t)
joins_quiet used is_func t = (tt, tt)
joins_quiet used is_value t = (tt, (tt, tt))
joins_quiet used is_instance t = (tt, tt)
joins_quiet used is_component t = (tt, tt)
joins_quiet used is_type t = (tt, tt)
joins_quiet used is_module t = (tt, tt)
joins_quiet used is_resource t = tt
joins_quiet used is_nothing t = tt
joins_quiet used is_core_instance t = tt
joins_quiet used is_core_type t = tt
joins_quiet used is_core_item t = tt

enters_differ : (d : Side) (n : Extern_name) (b : Brought tree_reader) (s : Tree_stack) → is_among n.name (entry_names (s.top.side d)) ≡ false → AllSidesDiffer s → AllSidesDiffer (apply (enters d n b) s)
enters_differ d n b s new h =
    let u : Tree_stack = change (introduces d b.resources) s in
    let v : AllSidesDiffer u = change_differ (introduces d b.resources) s tt h in
    let still : is_among n.name (entry_names (u.top.side d)) ≡ false = ap (λ (es : Entries). is_among n.name (entry_names es)) (introduced_side d d b.resources s.top) ∙ new in
    let last : Step tree_reader = joins tree_reader (same_side d exporting) (sort b.entity) b.entity in
    quiet_differ (creates d (tree_reader.creates b.entity) ∷ last) (change (lists d n b.entity) u) (tt, joins_quiet (same_side d exporting) (sort b.entity) b.entity)
    (top_differ (enlist d n b.entity) u v (enlisted_differ d n b.entity u.top still (v zero u.top refl)))

-- ## Items that list no entry

-- each that is made so has it
any_of : {A B : Type 0} (Q : B → Type 0) (f : A → B) → ((x : A) → Q (f x)) → (o : Option A) → OfAny Q (option_map f o)
any_of Q f h o = any_mapped (λ x. Unit {0}) Q f (λ x w. h x) o (any_is o)

module _ (s : Tree_stack) where
  types_quiet : (mk : _) (t : Type_form) → OfAny AllQuiet (type_step {X = tree_reader} mk s.top t)
  types_quiet mk (defined_type d) = any_of AllQuiet (added mk) (λ n. (tt, tt)) (type_made s.top (defined_type d))
  types_quiet mk (func_type f) = any_of AllQuiet (added mk) (λ n. (tt, tt)) (type_made s.top (func_type f))
  types_quiet mk (component_type ds) = tt
  types_quiet mk (instance_type ds) = tt
  types_quiet mk (resource_type rep dtor) = any_cond AllQuiet _ _ (tt, (tt, tt))

  core_types_quiet : (is : List ℕ) → AllQuiet (types_join tree_reader is)
  core_types_quiet [] = tt
  core_types_quiet (i ∷ is) = (tt, core_types_quiet is)

  core_type_quiet : (fs : WasmFeatures) (mk : _) (t : Core_type_form) → OfAny AllQuiet (core_type_step {X = tree_reader} fs mk s t)
  core_type_quiet fs mk (core_rec w) = any_cond AllQuiet _ _ (tt, core_types_quiet (group_ids s.groups (closed_group _ w)))
  core_type_quiet fs mk (core_module_type ds) = any_of AllQuiet (module_joins mk core_types) (λ m. (tt, (tt, tt))) (core_type_made fs s (core_module_type ds))

  charged_quiet : (w : ComponentOuterAliasKind) (n : ℕ) (t : Type_tree) → AllQuiet (charged s w n t)
  charged_quiet w zero t = tt
  charged_quiet w (suc n) t = go (is_charged w && concrete_at n s)
    where
      go : (b : Bool) → AllQuiet (cond b (charges n (tree_reader.size t) ∷ []) [])
      go true = (tt, tt)
      go false = tt

  outer_quiet : (w : ComponentOuterAliasKind) (t : Type_tree) → AllQuiet (outer_joins w t)
  outer_quiet outer.CoreModule t = (tt, tt)
  outer_quiet outer.CoreType t = (tt, tt)
  outer_quiet outer.Ty t = (tt, tt)
  outer_quiet outer.Component t = (tt, tt)

  alias_quiet : (a : ComponentAlias) → OfAny AllQuiet (alias_step s a)
  alias_quiet (alias.InstanceExport w i n) = any_of AllQuiet joining (λ t. joins_quiet false (sort t) t) (option_and_then (if_sort tree_reader (sort_named w)) (option_and_then (export_of tree_reader n) (instance_at s.top i)))
  alias_quiet (alias.CoreInstanceExport k i n) = any_of AllQuiet (item_joins tree_reader k) (λ e. (tt, tt)) (option_and_then (if_of k) (option_and_then (core_export_of tree_reader n) (core_instance_at s.top i)))
  alias_quiet (alias.Outer w n i) = any_of AllQuiet (λ t. charged s w n t ++ outer_joins w t) (λ t. both_quiet (charged s w n t) (outer_joins w t) (charged_quiet w n t) (outer_quiet w t)) (outer_at s w n i)

  result_quiet : (o : Option Type_tree) → AllQuiet (names_start ∷ result_joins o)
  result_quiet None = (tt, tt)
  result_quiet (Some x) = (tt, (tt, (tt, tt)))

  start_quiet : (f : ℕ) (args : List ℕ) → OfAny AllQuiet (start_step {X = tree_reader} s.top f args)
  start_quiet f args =
      any_if AllQuiet (list_all (λ (k : ℕ). not (is_none (value_at s.top k))) args) (option_map (start_joins args) (func_at s.top f))
      (any_of AllQuiet (start_joins args) (λ x. uses_quiet args (names_start ∷ result_joins (tree_reader.result x)) (result_quiet (tree_reader.result x))) (func_at s.top f))

  func_quiet : (o : Option CompositeForm) (b : Bool) → OfAny AllQuiet (option_and_then (λ w. func_step {X = tree_reader} s (alone b w)) o)
  func_quiet None b = tt
  func_quiet (Some w) b = any_cond AllQuiet _ _ (tt, (tt, tt))

  row_quiet : (f : Canon_form) (q : Appends) → OfAny AllQuiet (row_step {X = tree_reader} s f q)
  row_quiet f (row.lifted t) = any_of AllQuiet func_added (λ x. (tt, tt)) (type_of_sort is_func s.top t)
  row_quiet f (row.lowered k) = func_quiet (row_form s f (row.lowered k)) false
  row_quiet f (row.returning r) = func_quiet (row_form s f (row.returning r)) false
  row_quiet f (row.core_func ps rs) = func_quiet (row_form s f (row.core_func ps rs)) false
  row_quiet f (row.shared_func ps rs) = func_quiet (row_form s f (row.shared_func ps rs)) true

  slots_quiet : (qs : List Ask) (p : Step tree_reader) → AllQuiet p → AllQuiet (slots_typed qs p)
  slots_quiet [] p w = w
  slots_quiet (row.slot_of v n ∷ qs) p w = (tt, slots_quiet qs p w)
  slots_quiet (q ∷ qs) p w = slots_quiet qs p w

  canon_quiet : (f : Canon_form) → OfAny AllQuiet (canon_step {X = tree_reader} s f)
  canon_quiet f =
      let o : Option (Step tree_reader) = row_step s f (canon_row f).appends in
      any_if AllQuiet _ (option_map (slots_typed (canon_row f).asks) o) (any_mapped AllQuiet AllQuiet (slots_typed (canon_row f).asks) (slots_quiet (canon_row f).asks) o (row_quiet f (canon_row f).appends))

-- ## Steps

-- the stack with these marks of use
abbrev marked_as : List Bool → Tree_stack → Tree_stack
marked_as bs s = record s { top = record s.top { used = bs } }

module _ (s : Tree_stack) (h : AllSidesDiffer s) where
  -- names differ behind the step, whichever marks are made before it
  abbrev Keeps : Step tree_reader → Type 0
  Keeps p = (bs : List Bool) → AllSidesDiffer (apply p (marked_as bs s))

  marked_differ : (bs : List Bool) → AllSidesDiffer (marked_as bs s)
  marked_differ bs = top_differ (λ (c : Tree_context). record c { used = bs }) s h (h zero s.top refl)

  quiet_keeps : (p : Step tree_reader) → AllQuiet p → Keeps p
  quiet_keeps p w bs = quiet_differ p (marked_as bs s) w (marked_differ bs)

  any_quiet : (o : Option (Step tree_reader)) → OfAny AllQuiet o → OfAny Keeps o
  any_quiet None w = tt
  any_quiet (Some p) w = quiet_keeps p w

  entries_keep : (d : Side) (n : Extern_name) (o : Option (Brought tree_reader)) → OfAny Keeps (option_map (enters d n) (new_there d n s.top o))
  entries_keep d n o = go (is_among n.name (entry_names (s.top.side d))) refl o
    where
      go : (b : Bool) → is_among n.name (entry_names (s.top.side d)) ≡ b → (o : Option (Brought tree_reader)) → OfAny Keeps (option_map (enters d n) (cond (not b) o None))
      go true e o = tt
      go false e None = tt
      go false e (Some b) = λ bs. enters_differ d n b (marked_as bs s) e (marked_differ bs)

  uses_keep : (ks : List ℕ) (p : Step tree_reader) → Keeps p → Keeps (uses_each ks ++ p)
  uses_keep ks p w bs = subst AllSidesDiffer (sym (apply-append (uses_each ks) p (marked_as bs s) ∙ ap (apply p) (uses-applied ks (marked_as bs s)))) (w (marked ks bs))

  using_keeps : (ks : List ℕ) (o : Option (Step tree_reader)) → OfAny Keeps o → OfAny Keeps (using ks o)
  using_keeps ks o w = any_mapped Keeps Keeps (λ p. uses_each ks ++ p) (uses_keep ks) o w

  step_keeps : (fs : WasmFeatures) (mk : _) (f : Form) → OfAny Keeps (step {X = tree_reader} fs mk s f)
  step_keeps fs mk (type_item t) = any_quiet (type_step mk s.top t) (types_quiet s mk t)
  step_keeps fs mk (import_item i) = entries_keep importing (extern_name i.name) (written mk s.top i.ty)
  step_keeps fs mk (export_item e) = using_keeps (exported_values e) (option_map (enters exporting (extern_name e.name)) (new_there exporting (extern_name e.name) s.top (exported mk s.top e))) (entries_keep exporting (extern_name e.name) (exported mk s.top e))
  step_keeps fs mk (core_type_item t) = any_quiet (core_type_step fs mk s t) (core_type_quiet s fs mk t)
  step_keeps fs mk (core_module_item ds) = any_of Keeps (module_joins mk core_modules) (λ m. quiet_keeps (module_joins mk core_modules m) (tt, (tt, tt))) (core_module_made fs s ds)
  step_keeps fs mk (core_instance_item i) = any_of Keeps (core.instance_joins mk) (λ n. quiet_keeps (core.instance_joins mk n) (tt, tt)) (core_instance_made s i)
  step_keeps fs mk (component_item is end) = tt
  step_keeps fs mk (instance_item i) = using_keeps (instance_values i) (option_map instance_joins (instance_made mk s i)) (any_of Keeps instance_joins (λ b. quiet_keeps (instance_joins b) (tt, (tt, tt))) (instance_made mk s i))
  step_keeps fs mk (alias_item a) = any_quiet (alias_step s a) (alias_quiet s a)
  step_keeps fs mk (start_item f args n) = any_quiet (start_step s.top f args) (start_quiet s f args)
  step_keeps fs mk (canon_item c) = any_quiet (canon_step s c) (canon_quiet s c)

  applied_differ : (o : Option (Step tree_reader)) (u : Tree_stack) → OfAny Keeps o → applied s o ≡ Some u → AllSidesDiffer u
  applied_differ o u w e =
      let m = map-some (λ (p : Step tree_reader). apply p s) o u e in
      subst AllSidesDiffer (some-inj m.2) (of_some Keeps o m.0 w m.1 s.top.used)

-- ## What is read

module _ (fs : WasmFeatures) (mk : Makers tree_reader) where
  closed_quiet : (k : Kind) (p : Place) (n : New_node tree_reader) → AllQuiet (closed_as k (mk p) n)
  closed_quiet concrete p n = (tt, tt)
  closed_quiet declares_instance p n = (tt, tt)
  closed_quiet declares_component p n = (tt, tt)

  pub ended_differ : (k : Kind) (p : Place) (u v : Tree_stack) → AllSidesDiffer u → ended k (mk p) u ≡ Some v → AllSidesDiffer v
  ended_differ k p u v h e =
      let m = then-some (λ (t : Tree_stack). option_map (λ n. apply (closed_as k (mk p) n) t) (declared_made k u.top)) (around u) v e in
      let n = map-some (λ (n : New_node tree_reader). apply (closed_as k (mk p) n) m.0) (declared_made k u.top) v m.2 in
      subst AllSidesDiffer (some-inj n.2) (quiet_differ (closed_as k (mk p) n.0) m.0 (closed_quiet k p n.0) (around_differ u m.0 m.1 h))

  mutual
    type_differ : (p : Place) (s u : Tree_stack) (t : Type_form) → AllSidesDiffer s → read_type fs mk p s t ≡ Some u → AllSidesDiffer u
    type_differ p s u (component_type ds) h e =
        let m = then-some (ended declares_component (mk p)) (read_decls fs mk p 0 (inside declares_component s) ds) u e in
        ended_differ declares_component p m.0 u (decls_differ p 0 (inside declares_component s) m.0 ds (inside_differ declares_component s h) m.1) m.2
    type_differ p s u (instance_type ds) h e =
        let m = then-some (ended declares_instance (mk p)) (read_decls fs mk p 0 (inside declares_instance s) ds) u e in
        ended_differ declares_instance p m.0 u (decls_differ p 0 (inside declares_instance s) m.0 ds (inside_differ declares_instance s h) m.1) m.2
    type_differ p s u (defined_type d) h e = applied_differ s h (step fs (mk p) s (type_item (defined_type d))) u (step_keeps s h fs (mk p) (type_item (defined_type d))) e
    type_differ p s u (func_type f) h e = applied_differ s h (step fs (mk p) s (type_item (func_type f))) u (step_keeps s h fs (mk p) (type_item (func_type f))) e
    type_differ p s u (resource_type rep dtor) h e = applied_differ s h (step fs (mk p) s (type_item (resource_type rep dtor))) u (step_keeps s h fs (mk p) (type_item (resource_type rep dtor))) e

    pub decl_differ : (p : Place) (s u : Tree_stack) (d : Decl) → AllSidesDiffer s → read_decl fs mk p s d ≡ Some u → AllSidesDiffer u
    decl_differ p s u (core_type_decl t) h e = applied_differ s h (step fs (mk p) s (core_type_item t)) u (step_keeps s h fs (mk p) (core_type_item t)) e
    decl_differ p s u (type_decl t) h e = type_differ p s u t h e
    decl_differ p s u (alias_decl a) h e = applied_differ s h (alias_step s a) u (any_quiet s h (alias_step s a) (alias_quiet s a)) e
    decl_differ p s u (export_decl n r) h e = applied_differ s h (declared_export_step (mk p) s.top n r) u (entries_keep s h exporting (extern_name n) (written (mk p) s.top r)) e
    decl_differ p s u (import_decl i) h e = applied_differ s h (step fs (mk p) s (import_item i)) u (step_keeps s h fs (mk p) (import_item i)) e

    decls_differ : (p : Place) (n : ℕ) (s u : Tree_stack) (ds : Decls) → AllSidesDiffer s → read_decls fs mk p n s ds ≡ Some u → AllSidesDiffer u
    decls_differ p n s u no_decls h e = subst AllSidesDiffer (some-inj e) h
    decls_differ p n s u (declare d ds) h e =
        let m = then-some (λ (t : Tree_stack). read_decls fs mk p (suc n) t ds) (read_decl fs mk (deeper p n) s d) u e in
        decls_differ p (suc n) m.0 u ds (decl_differ (deeper p n) s m.0 d h m.1) m.2

  mutual
    pub item_differ : (p : Place) (s u : Tree_stack) (f : Form) → AllSidesDiffer s → read_item fs mk p s f ≡ Some u → AllSidesDiffer u
    item_differ p s u (type_item t) h e = type_differ p s u t h e
    item_differ p s u (component_item is end) h e =
        let m = then-some (ended concrete (mk p)) (read_items fs mk p 0 (inside concrete s) is) u e in
        ended_differ concrete p m.0 u (items_differ p 0 (inside concrete s) m.0 is (inside_differ concrete s h) m.1) m.2
    item_differ p s u f h e = applied_differ s h (step fs (mk p) s f) u (step_keeps s h fs (mk p) f) e

    pub items_differ : (p : Place) (n : ℕ) (s u : Tree_stack) (is : Items) → AllSidesDiffer s → read_items fs mk p n s is ≡ Some u → AllSidesDiffer u
    items_differ p n s u no_items h e = subst AllSidesDiffer (some-inj e) h
    items_differ p n s u (next_item at f is) h e =
        let m = then-some (λ (t : Tree_stack). read_items fs mk p (suc n) t is) (read_item fs mk (deeper p n) s f) u e in
        items_differ p (suc n) m.0 u is (item_differ (deeper p n) s m.0 f h m.1) m.2
