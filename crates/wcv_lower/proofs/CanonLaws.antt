-- Canonical functions under a map of entries; where there is no cause, they do something.
use Rattle.std.proofs.Common.{◌≡◌, ℕ, List, [], ◌∷◌, ◌++◌, length, refl, ◌∙◌, ap, Bool, true, false, cond, not, ◌&&◌, Some, None}
use Rattle.std.specs.Prelude.{Option, slice_get}
use Rattle.std.specs.Map.{lookup}
use Rattle.std.specs.Option.{option_map, option_and_then, unwrap_or}
use Rattle.std.proofs.lemmas.Bool.{false≢true}
use Rattle.wcv_core.specs.Checks.{all_checks}
use Rattle.wcv_core.specs.CoreFeatures.{needs}
use Rattle.wcv_core.specs.CoreForm.{CompositeForm, SubForm, Group}
use Rattle.wcv_core.specs.CoreGroups.{total}
use Rattle.wcv_core.specs.CoreJoining.{is_free, order_checks, first_id, grown}
use Rattle.wcv_core.specs.CoreMatching as table
use Rattle.wcv_core.specs.CoreTable.{limit_checks}
use Rattle.wcv_core.specs.CoreWritten.{Core_entry, val_checks, index_checks, closed_group}
use Rattle.wcv_core.specs.declared.core_types.CoreTypeId.{CoreTypeId}
use Rattle.wcv_core.specs.declared.core_types.EntityType.{EntityType}
use Rattle.wcv_core.specs.declared.core_types.EntityType.TheVariants as entity
use Rattle.wcv_core.specs.declared.core_types.TableType.{TableType}
use Rattle.wcv_core.specs.declared.core_types.ValType.{ValType}
use Rattle.wcv_core.specs.declared.error.ErrorKind.TheVariants as error
use Rattle.wcv_core.specs.declared.features.WasmFeatures.{WasmFeatures}
use Rattle.wcv_syntax.specs.Model.{Canon_form}
use Rattle.wcv_syntax.specs.declared.canonical.CanonicalOption.{CanonicalOption}
use Rattle.wcv_syntax.specs.declared.component_type.ComponentValType.{ComponentValType}
use Rattle.wcv_syntax.specs.declared.component_type.ComponentValType.TheVariants.{Primitive, Ty}
use Rattle.wcv_syntax.specs.declared.core_section.ExternalKind.TheVariants as kind
use Rattle.wcv_types.specs.Abi.{pointer, any_contains}
use Rattle.wcv_types.specs.Tree.{is_func, is_value, is_resource, parts}
use Rattle.wcv_flat.specs.Options.{pointer_size, type_checks}
use Rattle.wcv_flat.specs.RowTypes.{words_form, taking, sync, is_shared}
use Rattle.wcv_flat.specs.Rows.{Ask, Needed, Appends, async_option, callback_option, canon_row}
use Rattle.wcv_flat.specs.Rows as row
use Rattle.wcv_flat.specs.Signature.{core_type}
use Rattle.wcv_flat.specs.declared.options.Abi.TheVariants as abi
use Rattle.wcv_flat.specs.declared.options.CanonicalOptions.{CanonicalOptions}
use Rattle.wcv_flat.specs.declared.options.Concurrency.TheVariants as concurrency
use Rattle.wcv_flat.specs.declared.rows.RowFacts.{RowFacts}
use Rattle.wcv_lower.specs.CanonOptions.{stands, stands_without, first, post_return_in, core_entity_at, memory_rules, options_read, options_found, memory_found, options_rules, options_checks}
use Rattle.wcv_lower.specs.Canons.{func_at, core_id, core_id_at, as_table, table_type_at, element_size, rep_among, local_rep, start_param, options_in, canon_options, memory_alone, told_by, all_told, canon_facts, lifted_form, lowered_form, returning_form, row_form, alone, outline_checks, is_abroad, ask_found, value_found, appends_found, operands_found, canon_found, func_joins, func_step, func_added, row_step, slots_typed, canon_step, is_needed, is_async_alone, is_start, is_other_type, is_spawned, is_func_table, is_spawn_table, is_other_table, test_both, has_other_type, is_no_post_return, lift_checks, ask_rules, lifted_asks, lowered_asks, returning_asks, appended_asks, joining_checks, form_joins, canon_rules, canon_checks}
use Rattle.wcv_lower.specs.Checks.{Checks, IsFree, if_found, is_none, missing, no_room}
use Rattle.wcv_lower.specs.Context.{Context, Stack, in_funcs, core_funcs, counts}
use Rattle.wcv_lower.specs.CoreInstances.{test_found}
use Rattle.wcv_lower.specs.CoreItems.{core_entries, is_closable}
use Rattle.wcv_lower.specs.Mapped.{Map, Commutes, IsKnown, map_context, map_stack, map_step, map_defined}
use Rattle.wcv_lower.specs.Outlines.{Outline, is_async_func, is_stream, is_future, carried, has_value}
use Rattle.wcv_lower.specs.Readers.{Reader}
use Rattle.wcv_lower.specs.Step.{Step, core_appends, interns, types_slots}
use Rattle.wcv_core.specs.Features.{cm_async_stackful, cm64}
use Rattle.wcv_lower.specs.Values.{type_at, type_of_sort, resource_at, option_entry}
use Rattle.wcv_lower.proofs.CanonOptionLaws.{item_missing-mapped, entity-mapped, memory_type-mapped, memory_pointers-mapped, core_type_found-mapped, options_read-mapped, memory_found-mapped, options_checks-mapped, memory_there}
use Rattle.wcv_lower.proofs.Causes.{free_both, free_left, free_right}
use Rattle.wcv_lower.proofs.CoreLaws.{core_entries-mapped}
use Rattle.wcv_lower.proofs.DefinedLaws.{result-mapped}
use Rattle.wcv_lower.proofs.Mapping.{missing-mapped, get-mapped, counts-mapped, type_at-mapped}
use Rattle.wcv_lower.proofs.ModulesMade.{said_free}
use Rattle.wcv_lower.proofs.ValueLaws.{of_sort-mapped, sort_checks-mapped, option-mapped, option_checks-mapped, found-same, mapped, found_there, found_of}

-- what is found is mapped, or tested, along a map
found_map : {A B C : Type 0} (f : A → B) (u : B → C) (v : A → C) → ((x : A) → u (f x) ≡ v x) → (o : Option A) → option_map u (option_map f o) ≡ option_map v o
found_map f u v h None = refl
found_map f u v h (Some x) = ap Some (h x)

tested : {A B : Type 0} (f : A → B) (u : B → Bool) (v : A → Bool) → ((x : A) → u (f x) ≡ v x) → (o : Option A) → test_found u (option_map f o) ≡ test_found v o
tested f u v h None = refl
tested f u v h (Some x) = h x

module _ {X Y : Reader} (m : Map X Y) {Known : X.Entry → Type 0} (law : Commutes m Known) where
  -- ## What operands name

  func_at-mapped : (c : Context X) (k : ℕ) → func_at (map_context m c) k ≡ option_map m.entry (func_at c k)
  func_at-mapped c k = get-mapped m law (c.space in_funcs) k

  core_id-mapped : (c : Context X) (k : ℕ) → core_id_at (map_context m c) k ≡ core_id_at c k
  core_id-mapped c k = λ j. option_and_then core_id (slice_get (core_entries-mapped m law c j) k)

  table_type-mapped : (c : Context X) (n : ℕ) → table_type_at (map_context m c) n ≡ table_type_at c n
  table_type-mapped c n = ap (option_and_then as_table) (entity-mapped m law c kind.Table n)

  rep_among-mapped : (ds : List (X.Resource × Option ValType)) (x : X.Entry) → rep_among Y (map_defined m ds) (m.entry x) ≡ rep_among X ds x
  rep_among-mapped ds x = ap (option_and_then (λ (v : Option ValType). v)) (go ds)
    where
      go : (ds : List (X.Resource × Option ValType)) → lookup (λ r. Y.is_free r (m.entry x)) (map_defined m ds) ≡ lookup (λ r. X.is_free r x) ds
      go [] = refl
      go (d ∷ ds) = λ j. cond (law.is_free d.0 x j) (Some d.1) (go ds j)

  local_rep-mapped : (c : Context X) → IsKnown Known c → (k : ℕ) → local_rep (map_context m c) k ≡ local_rep c k
  local_rep-mapped c w k = ap (option_and_then (rep_among Y (map_defined m c.defined))) (of_sort-mapped m law is_resource c w k) ∙ go (resource_at c k)
    where
      go : (o : Option X.Entry) → option_and_then (rep_among Y (map_defined m c.defined)) (option_map m.entry o) ≡ option_and_then (rep_among X c.defined) o
      go None = refl
      go (Some x) = rep_among-mapped c.defined x

  abroad-mapped : (c : Context X) → IsKnown Known c → (k : ℕ) → is_abroad (map_context m c) k ≡ is_abroad c k
  abroad-mapped c w k =
      ap (test_found (λ (y : Y.Entry). is_none (rep_among Y (map_defined m c.defined) y))) (of_sort-mapped m law is_resource c w k) ∙
      tested m.entry (λ (y : Y.Entry). is_none (rep_among Y (map_defined m c.defined) y)) (λ (x : X.Entry). is_none (rep_among X c.defined x)) (λ x. ap is_none (rep_among-mapped c.defined x)) (resource_at c k)

  -- ## The core type of what is appended

  canon_options-mapped : (c : Context X) (f : Canon_form) → canon_options (map_context m c) f ≡ canon_options c f
  canon_options-mapped c f = options_read-mapped m law c (unwrap_or (options_in f) [])

  told_by-mapped : (s : Stack X) → IsKnown Known s.top → (q : Ask) (f : RowFacts) → told_by (map_stack m s) q f ≡ told_by s q f
  told_by-mapped s w (row.local_resource_at k) f = λ j. record f { rep = local_rep-mapped s.top w k j }
  told_by-mapped s w (row.memory_at i) f = λ j. record f { options = Some (memory_alone i (memory_pointers-mapped m law s.top i j)) }
  told_by-mapped s w (row.spawn_type_at t) f = λ j. record f { start = core_id-mapped s.top t j }
  told_by-mapped s w (row.start_type_at t) f = λ j. record f { start_param = option_and_then (start_param s.groups) (core_id-mapped s.top t j) }
  told_by-mapped s w (row.start_table_at n) f = λ j. record f { table_index = option_map element_size (table_type-mapped s.top n j) }
  told_by-mapped s w q f = refl

  all_told-mapped : (s : Stack X) → IsKnown Known s.top → (qs : List Ask) (f : RowFacts) → all_told (map_stack m s) qs f ≡ all_told s qs f
  all_told-mapped s w [] f = refl
  all_told-mapped s w (q ∷ qs) f = ap (told_by (map_stack m s) q) (all_told-mapped s w qs f) ∙ told_by-mapped s w q (all_told s qs f)

  abbrev told : Option CanonicalOptions → RowFacts
  told o = record { options = o; function = None; rep = None; start = None; start_param = None; table_index = None }

  canon_facts-mapped : (s : Stack X) → IsKnown Known s.top → (f : Canon_form) → canon_facts (map_stack m s) f ≡ canon_facts s f
  canon_facts-mapped s w f =
      (λ j. all_told (map_stack m s) (canon_row f).asks (told (option_map (λ os. options_read-mapped m law s.top os j) (options_in f)))) ∙ all_told-mapped s w (canon_row f).asks (told (option_map (options_read s.top) (options_in f)))

  row_form-mapped : (s : Stack X) → IsKnown Known s.top → (f : Canon_form) (q : Appends) → row_form (map_stack m s) f q ≡ row_form s f q
  row_form-mapped s w f (row.lowered k) =
      (λ j. option_map (lowered_form Y (canon_options-mapped s.top f j)) (func_at-mapped s.top k j)) ∙
      found_map m.entry (lowered_form Y (canon_options s.top f)) (lowered_form X (canon_options s.top f)) (λ x j. core_type (pointer_size (canon_options s.top f)) abi.Lower (canon_options s.top f).concurrency (parts (law.outline x j))) (func_at s.top k)
  row_form-mapped s w f (row.returning r) =
      (λ j. option_map (returning_form Y (canon_options-mapped s.top f j)) (option-mapped m law s.top w r j)) ∙
      found_map m.entry (returning_form Y (canon_options s.top f)) (returning_form X (canon_options s.top f)) (λ x j. core_type (pointer_size (canon_options s.top f)) abi.Lower concurrency.Sync (taking (law.outline x j))) (option_entry s.top r)
  row_form-mapped s w f (row.lifted t) = refl
  row_form-mapped s w f (row.core_func ps rs) = ap (λ (x : RowFacts). Some (words_form x (row.core_func ps rs))) (canon_facts-mapped s w f)
  row_form-mapped s w f (row.shared_func ps rs) = ap (λ (x : RowFacts). Some (words_form x (row.shared_func ps rs))) (canon_facts-mapped s w f)

  -- ## What is looked up

  outlined-mapped : (test : Outline → Bool) (o : Option X.Entry) → test_found (λ (y : Y.Entry). test (Y.outline y)) (option_map m.entry o) ≡ test_found (λ (x : X.Entry). test (X.outline x)) o
  outlined-mapped test o = tested m.entry (λ (y : Y.Entry). test (Y.outline y)) (λ (x : X.Entry). test (X.outline x)) (λ x. ap test (law.outline x)) o

  outline_at-mapped : (test : Outline → Bool) (c : Context X) (k : ℕ) → test_found (λ (y : Y.Entry). test (Y.outline y)) (type_at (map_context m c) k) ≡ test_found (λ (x : X.Entry). test (X.outline x)) (type_at c k)
  outline_at-mapped test c k = ap (test_found (λ (y : Y.Entry). test (Y.outline y))) (type_at-mapped m law c k) ∙ outlined-mapped test (type_at c k)

  outline_checks-mapped : (test : Outline → Bool) (c : Context X) (k : ℕ) → outline_checks test (map_context m c) k ≡ outline_checks test c k
  outline_checks-mapped test c k =
      let looked : missing (type_at (map_context m c) k) ≡ missing (type_at c k) = ap missing (type_at-mapped m law c k) ∙ missing-mapped m.entry (type_at c k) in
      λ j. looked j ++ (error.WrongSort, outline_at-mapped (λ t. not (test t)) c k j) ∷ []

  ask_found-mapped : (s : Stack X) → IsKnown Known s.top → (q : Ask) → ask_found (map_stack m s) q ≡ ask_found s q
  ask_found-mapped s w (row.resource_at k) = sort_checks-mapped m law is_resource s.top w k
  ask_found-mapped s w (row.local_resource_at k) = λ j. sort_checks-mapped m law is_resource s.top w k j ++ (error.ResourceScope, abroad-mapped s.top w k j) ∷ []
  ask_found-mapped s w (row.stream_at k) = outline_checks-mapped is_stream s.top k
  ask_found-mapped s w (row.future_at k) = outline_checks-mapped is_future s.top k
  ask_found-mapped s w (row.memory_at i) = item_missing-mapped m law s.top kind.Memory i
  ask_found-mapped s w (row.slot_of v n) = λ j. val_checks (total s.groups) (core_entries-mapped m law s.top j) 0 v
  ask_found-mapped s w (row.spawn_type_at t) = core_type_found-mapped m law s.top t
  ask_found-mapped s w (row.start_type_at t) = core_type_found-mapped m law s.top t
  ask_found-mapped s w (row.spawn_table_at n) = item_missing-mapped m law s.top kind.Table n
  ask_found-mapped s w (row.start_table_at n) = item_missing-mapped m law s.top kind.Table n
  ask_found-mapped s w (row.lifts f t os) = item_missing-mapped m law s.top kind.Func f
  ask_found-mapped s w q = refl

  value_found-mapped : (c : Context X) → IsKnown Known c → (r : Option ComponentValType) → value_found (map_context m c) r ≡ value_found c r
  value_found-mapped c w (Some (Ty k)) = sort_checks-mapped m law is_value c w k
  value_found-mapped c w r = refl

  appends_found-mapped : (c : Context X) → IsKnown Known c → (q : Appends) → appends_found (map_context m c) q ≡ appends_found c q
  appends_found-mapped c w (row.lowered k) = ap missing (func_at-mapped c k) ∙ missing-mapped m.entry (func_at c k)
  appends_found-mapped c w (row.returning r) = value_found-mapped c w r
  appends_found-mapped c w (row.lifted t) = sort_checks-mapped m law is_func c w t
  appends_found-mapped c w q = refl

  operands-mapped : (s : Stack X) → IsKnown Known s.top → (f : Canon_form) → operands_found (map_stack m s) f ≡ operands_found s f
  operands-mapped s w f = λ j. all_checks (λ q. ask_found-mapped s w q j) (canon_row f).asks ++ appends_found-mapped s.top w (canon_row f).appends j

  canon_found-mapped : (s : Stack X) → IsKnown Known s.top → (f : Canon_form) → canon_found (map_stack m s) f ≡ canon_found s f
  canon_found-mapped s w f = λ j. operands-mapped s w f j ++ if_found (λ os. memory_found-mapped m law s.top os j) (options_in f)

  -- ## Steps

  func_joins-mapped : (gs : List Group) (g : Group) → func_joins Y gs g ≡ map_step m (func_joins X gs g)
  func_joins-mapped gs g = ap (λ y. interns (grown gs g) ∷ core_appends core_funcs y ∷ []) (law.core_item (entity.Func (record { index = first_id gs g })))

  func_step-mapped : (s : Stack X) (w : Group) → func_step (map_stack m s) w ≡ option_map (map_step m) (func_step s w)
  func_step-mapped s w =
      (λ j. cond (is_closable s.groups (core_entries-mapped m law s.top j) w) (Some (func_joins-mapped s.groups (closed_group (core_entries-mapped m law s.top j) w) j)) None) ∙ go (is_closable s.groups (core_entries s.top) w)
    where
      go : (b : Bool) → cond b (Some (map_step m (func_joins X s.groups (closed_group (core_entries s.top) w)))) None ≡ option_map (map_step m) (cond b (Some (func_joins X s.groups (closed_group (core_entries s.top) w))) None)
      go true = refl
      go false = refl

  core_step-mapped : (s : Stack X) (b : Bool) (o p : Option CompositeForm) → p ≡ o → option_and_then (λ w. func_step (map_stack m s) (alone b w)) p ≡ option_map (map_step m) (option_and_then (λ w. func_step s (alone b w)) o)
  core_step-mapped s b o p e = ap (option_and_then (λ w. func_step (map_stack m s) (alone b w))) e ∙ go o
    where
      go : (o : Option CompositeForm) → option_and_then (λ w. func_step (map_stack m s) (alone b w)) o ≡ option_map (map_step m) (option_and_then (λ w. func_step s (alone b w)) o)
      go None = refl
      go (Some w) = func_step-mapped s (alone b w)

  added-mapped : (o : Option X.Entry) → option_map (func_added {X = Y}) (option_map m.entry o) ≡ option_map (map_step m) (option_map (func_added {X = X}) o)
  added-mapped None = refl
  added-mapped (Some x) = refl

  row_step-mapped : (s : Stack X) → IsKnown Known s.top → (f : Canon_form) (q : Appends) → row_step (map_stack m s) f q ≡ option_map (map_step m) (row_step s f q)
  row_step-mapped s w f (row.lifted t) = ap (option_map (func_added {X = Y})) (of_sort-mapped m law is_func s.top w t) ∙ added-mapped (type_of_sort is_func s.top t)
  row_step-mapped s w f (row.lowered k) = core_step-mapped s false (row_form s f (row.lowered k)) _ (row_form-mapped s w f (row.lowered k))
  row_step-mapped s w f (row.returning r) = core_step-mapped s false (row_form s f (row.returning r)) _ (row_form-mapped s w f (row.returning r))
  row_step-mapped s w f (row.core_func ps rs) = core_step-mapped s false (row_form s f (row.core_func ps rs)) _ (row_form-mapped s w f (row.core_func ps rs))
  row_step-mapped s w f (row.shared_func ps rs) = core_step-mapped s true (row_form s f (row.shared_func ps rs)) _ (row_form-mapped s w f (row.shared_func ps rs))

  slots-mapped : (qs : List Ask) (p : Step X) → slots_typed qs (map_step m p) ≡ map_step m (slots_typed qs p)
  slots-mapped [] p = refl
  slots-mapped (row.slot_of v n ∷ qs) p = ap (λ (q : Step Y). types_slots v ∷ q) (slots-mapped qs p)
  slots-mapped (q ∷ qs) p = slots-mapped qs p

  pub canon_step-mapped : (s : Stack X) → IsKnown Known s.top → (f : Canon_form) → canon_step (map_stack m s) f ≡ option_map (map_step m) (canon_step s f)
  canon_step-mapped s w f =
      (λ j. cond (is_free (canon_found-mapped s w f j)) (option_map (slots_typed (canon_row f).asks) (row_step-mapped s w f (canon_row f).appends j)) None) ∙ go (is_free (canon_found s f)) (canon_row f).asks (row_step s f (canon_row f).appends)
    where
      go : (b : Bool) (qs : List Ask) (o : Option (Step X)) → cond b (option_map (slots_typed qs) (option_map (map_step m) o)) None ≡ option_map (map_step m) (cond b (option_map (slots_typed qs) o) None)
      go true qs None = refl
      go true qs (Some p) = ap Some (slots-mapped qs p)
      go false qs o = refl

  -- ## Causes

  needed-mapped : (c : Context X) (n : Needed) → is_needed (map_context m c) n ≡ is_needed c n
  needed-mapped c row.in_any_case = refl
  needed-mapped c (row.with_payload k t) = outline_at-mapped (λ x. has_value (carried x k)) c t
  needed-mapped c (row.with_pointer k t) = outline_at-mapped (λ x. any_contains pointer (carried x k)) c t

  async-mapped : (os : List CanonicalOption) (o : Option X.Entry) → is_async_alone Y os (option_map m.entry o) ≡ is_async_alone X os o
  async-mapped os o = ap (λ (b : Bool). stands async_option os && b) (outlined-mapped (λ t. not (is_async_func t)) o)

  other_type-mapped : (test : SubForm → Bool) (s : Stack X) (t : ℕ) → is_other_type test (map_stack m s) t ≡ is_other_type test s t
  other_type-mapped test s t = ap (test_found (λ (i : CoreTypeId). not (test (table.type_at s.groups i.index)))) (core_id-mapped s.top t)

  other_table-mapped : (test : TableType → Bool) (c : Context X) (n : ℕ) → is_other_table test (map_context m c) n ≡ is_other_table test c n
  other_table-mapped test c n = ap (test_found (λ (t : TableType). not (test t))) (table_type-mapped c n)

  other_signature-mapped : (gs : List Group) (o : CanonicalOptions) (e : Option EntityType) (x : Option X.Entry) →
      test_both (λ (y : Y.Entry) i. has_other_type gs (lifted_form Y o y) i) (option_map m.entry x) e ≡ test_both (λ (y : X.Entry) i. has_other_type gs (lifted_form X o y) i) x e
  other_signature-mapped gs o e x =
      tested m.entry (λ (y : Y.Entry). test_found (has_other_type gs (lifted_form Y o y)) e) (λ (y : X.Entry). test_found (has_other_type gs (lifted_form X o y)) e)
      (λ y j. test_found (has_other_type gs (core_type (pointer_size o) abi.Lift o.concurrency (parts (law.outline y j)))) e) x

  lift_checks-mapped : (fs : WasmFeatures) (s : Stack X) → IsKnown Known s.top → (f t : ℕ) (os : List CanonicalOption) → lift_checks fs (map_stack m s) f t os ≡ lift_checks fs s f t os
  lift_checks-mapped fs s w f t os =
      let o : Option X.Entry = type_of_sort is_func s.top t in
      let async : is_async_alone Y os (type_of_sort is_func (map_context m s.top) t) ≡ is_async_alone X os o = ap (is_async_alone Y os) (of_sort-mapped m law is_func s.top w t) ∙ async-mapped os o in
      let signed = (λ j. test_both (λ (y : Y.Entry) i. has_other_type s.groups (lifted_form Y (options_read-mapped m law s.top os j) y) i) (of_sort-mapped m law is_func s.top w t j) (entity-mapped m law s.top kind.Func f j)) ∙
      other_signature-mapped s.groups (options_read s.top os) (core_entity_at s.top kind.Func f) o in
      λ j. (error.Options, async j)
      ∷ (needs fs cm_async_stackful (stands_without async_option callback_option os)
      ++ ((error.Options, test_both (is_no_post_return s.groups) (entity-mapped m law s.top kind.Func f j) (option_and_then (λ i. entity-mapped m law s.top kind.Func i j) (first post_return_in os))) ∷ (error.Signature, signed j) ∷ []))

  ask_rules-mapped : (fs : WasmFeatures) (s : Stack X) → IsKnown Known s.top → (q : Ask) → ask_rules fs (map_stack m s) q ≡ ask_rules fs s q
  ask_rules-mapped fs s w (row.has_to_stand n u os) = λ j. (error.Options, needed-mapped s.top u j && not (stands n os)) ∷ []
  ask_rules-mapped fs s w (row.async_func k os) =
      let e : is_async_alone Y os (func_at (map_context m s.top) k) ≡ is_async_alone X os (func_at s.top k) = ap (is_async_alone Y os) (func_at-mapped s.top k) ∙ async-mapped os (func_at s.top k) in
      λ j. (error.Options, e j) ∷ []
  ask_rules-mapped fs s w (row.memory_at i) = ap (if_found (memory_rules fs)) (memory_type-mapped m law s.top i)
  ask_rules-mapped fs s w (row.no_borrow r) = λ j. option_checks-mapped m law fs s.top w r j ++ result-mapped m law s.top w r j
  ask_rules-mapped fs s w (row.slot_of v n) = refl
  ask_rules-mapped fs s w (row.spawn_type_at t) = λ j. (error.Signature, other_type-mapped is_spawned s t j) ∷ []
  ask_rules-mapped fs s w (row.start_type_at t) = λ j. (error.Signature, other_type-mapped (is_start fs) s t j) ∷ []
  ask_rules-mapped fs s w (row.spawn_table_at n) = λ j. (error.Signature, other_table-mapped is_spawn_table s.top n j) ∷ []
  ask_rules-mapped fs s w (row.start_table_at n) = λ j. (error.Signature, other_table-mapped (is_func_table false) s.top n j) ∷ needs fs cm64 (test_found (λ (t : TableType). t.table64) (table_type-mapped s.top n j))
  ask_rules-mapped fs s w (row.lifts f t os) = lift_checks-mapped fs s w f t os
  ask_rules-mapped fs s w q = refl

  appended_asks-mapped : (c : Context X) → IsKnown Known c → (o : CanonicalOptions) (q : Appends) → appended_asks (map_context m c) o q ≡ appended_asks c o q
  appended_asks-mapped c w o (row.lowered k) = found-same m.entry (lowered_asks Y o) (lowered_asks X o) (λ x j. type_checks o abi.Lower (parts (law.outline x j))) (func_at c k) (func_at (map_context m c) k) (func_at-mapped c k)
  appended_asks-mapped c w o (row.returning r) = found-same m.entry (returning_asks Y o) (returning_asks X o) (λ x j. type_checks (sync o) abi.Lower (taking (law.outline x j))) (option_entry c r) (option_entry (map_context m c) r) (option-mapped m law c w r)
  appended_asks-mapped c w o (row.lifted t) = found-same m.entry (lifted_asks Y o) (lifted_asks X o) (λ x j. type_checks o abi.Lift (parts (law.outline x j))) (type_of_sort is_func c t) (type_of_sort is_func (map_context m c) t) (of_sort-mapped m law is_func c w t)
  appended_asks-mapped c w o q = refl

  joining-mapped : (s : Stack X) (g : Group) → joining_checks (map_stack m s) g ≡ joining_checks s g
  joining-mapped s g = λ j.
      let es : List Core_entry = core_entries-mapped m law s.top j in
      (all_checks (index_checks (total s.groups) es (length g)) g ++ order_checks (length es) g) ++ limit_checks s.groups (closed_group es g)

  form_joins-mapped : (s : Stack X) → IsKnown Known s.top → (f : Canon_form) (q : Appends) → form_joins (map_stack m s) f q ≡ form_joins s f q
  form_joins-mapped s w f q = λ j. if_found (λ u. joining-mapped s (alone (is_shared q) u) j) (row_form-mapped s w f q j)

  canon_rules-mapped : (fs : WasmFeatures) (s : Stack X) → IsKnown Known s.top → (f : Canon_form) → canon_rules fs (map_stack m s) f ≡ canon_rules fs s f
  canon_rules-mapped fs s w f =
      (λ j. all_checks (λ q. ask_rules-mapped fs s w q j) (canon_row f).asks ++ appended_asks (map_context m s.top) (canon_options-mapped s.top f j) (canon_row f).appends) ∙
      ap (λ (cs : Checks). all_checks (ask_rules fs s) (canon_row f).asks ++ cs) (appended_asks-mapped s.top w (canon_options s.top f) (canon_row f).appends)

  pub canon_checks-mapped : (fs : WasmFeatures) (s : Stack X) → IsKnown Known s.top → (f : Canon_form) → canon_checks fs (map_stack m s) f ≡ canon_checks fs s f
  canon_checks-mapped fs s w f = λ j.
      operands-mapped s w f j
      ++ (if_found (λ os. options_checks-mapped m law fs s os j) (options_in f) ++ (canon_rules-mapped fs s w f j ++ (form_joins-mapped s w f (canon_row f).appends j ++ no_room (counts-mapped m law s.top j) is_func)))

-- ## Without a cause

module _ (X : Reader) (s : Stack X) where
  core_there : (b : Bool) (o : Option CompositeForm) → (w : CompositeForm) × (o ≡ Some w) → IsFree (if_found (λ u. joining_checks s (alone b u)) o) → (p : Step X) × (option_and_then (λ u. func_step s (alone b u)) o ≡ Some p)
  core_there b None w h = absurd (false≢true (ap (λ (o : Option CompositeForm). test_found (λ u. true) o) w.1))
  core_there b (Some u) w h =
      let g : Group = alone b u in
      let p : Step X = func_joins X s.groups (closed_group (core_entries s.top) g) in
      let looked : Checks = all_checks (index_checks (total s.groups) (core_entries s.top) (length g)) g ++ order_checks (length (core_entries s.top)) g in
      (p, ap (λ (a : Bool). cond a (Some p) None) (said_free looked (free_left looked (limit_checks s.groups (closed_group (core_entries s.top) g)) h)))

  value_there : (r : Option ComponentValType) → IsFree (value_found s.top r) → (x : X.Entry) × (option_entry s.top r ≡ Some x)
  value_there None h = (X.left_out, refl)
  value_there (Some (Primitive p)) h = (X.primitive p, refl)
  value_there (Some (Ty k)) h = found_of X is_value (type_at s.top k) h

  row_there : (f : Canon_form) (q : Appends) → IsFree (appends_found s.top q) → IsFree (form_joins s f q) → (p : Step X) × (row_step s f q ≡ Some p)
  row_there f (row.core_func ps rs) h u = core_there false (row_form s f (row.core_func ps rs)) (words_form (canon_facts s f) (row.core_func ps rs), refl) u
  row_there f (row.shared_func ps rs) h u = core_there true (row_form s f (row.shared_func ps rs)) (words_form (canon_facts s f) (row.shared_func ps rs), refl) u
  row_there f (row.lowered k) h u = core_there false (row_form s f (row.lowered k)) (mapped (lowered_form X (canon_options s.top f)) (func_at s.top k) (found_there (func_at s.top k) h)) u
  row_there f (row.returning r) h u = core_there false (row_form s f (row.returning r)) (mapped (returning_form X (canon_options s.top f)) (option_entry s.top r) (value_there r h)) u
  row_there f (row.lifted t) h u = mapped (func_added {X = X}) (type_of_sort is_func s.top t) (found_of X is_func (type_at s.top t) h)

  options_there : (fs : WasmFeatures) (o : Option (List CanonicalOption)) → IsFree (if_found (options_checks fs s) o) → IsFree (if_found (memory_found s.top) o)
  options_there fs None h = h
  options_there fs (Some os) h = memory_there X s.top os (free_left (options_found s.top os) (options_rules fs s os) h)

  pub canon_does : (fs : WasmFeatures) (f : Canon_form) → IsFree (canon_checks fs s f) → (p : Step X) × (canon_step s f ≡ Some p)
  canon_does fs f h =
      let q : Appends = (canon_row f).appends in
      let asked : Checks = all_checks (ask_found s) (canon_row f).asks in
      let options : Checks = if_found (options_checks fs s) (options_in f) in
      let room : Checks = no_room (counts s.top) is_func in
      let late : Checks = form_joins s f q ++ room in
      let rest : Checks = canon_rules fs s f ++ late in
      let operands : IsFree (operands_found s f) = free_left (operands_found s f) (options ++ rest) h in
      let others : IsFree (options ++ rest) = free_right (operands_found s f) (options ++ rest) h in
      let found : IsFree (canon_found s f) = free_both (operands_found s f) (if_found (memory_found s.top) (options_in f)) operands (options_there fs (options_in f) (free_left options rest others)) in
      let joins : IsFree (form_joins s f q) = free_left (form_joins s f q) room (free_right (canon_rules fs s f) late (free_right options rest others)) in
      let p = row_there f q (free_right asked (appends_found s.top q) operands) joins in
      (slots_typed (canon_row f).asks p.0, (λ j. cond (said_free (canon_found s f) found j) (option_map (slots_typed (canon_row f).asks) (p.1 j)) None))
