-- What was looked up for a row makes a core type of numbers and of references to types of the table.
use Rattle.std.proofs.Common.{◌≡◌, ℕ, ◌<◌, List, [], ◌∷◌, ◌++◌, refl, sym, ◌∙◌, subst, Bool, true, false, not, ◌&&◌, ◌||◌, cond, Some, None, All}
use Rattle.std.specs.Prelude.{Option, slice_get, IfSome, nat_lt}
use Rattle.std.specs.List.{list_all}
use Rattle.std.specs.Map.{lookup}
use Rattle.std.specs.Option.{option_map, option_and_then, unwrap_or}
use Rattle.std.proofs.lemmas.Bool.{false≢true}
use Rattle.std.proofs.lemmas.List.Elements.{All-nil, All-cons, All-head, All-tail, All-map, All-weaker}
use Rattle.wcv_core.specs.Checks.{all_checks}
use Rattle.wcv_core.specs.CoreFeatures.{needs, val_needs}
use Rattle.wcv_core.specs.CoreForm.{CompositeForm, func_form, struct_form, array_form, SubForm}
use Rattle.wcv_core.specs.CoreGroups.{IsValWithin, total}
use Rattle.wcv_core.specs.CoreMatching as table
use Rattle.wcv_core.specs.declared.core_types.CoreTypeId.{CoreTypeId}
use Rattle.wcv_core.specs.declared.core_types.ValType.{ValType}
use Rattle.wcv_core.specs.declared.core_types.ValType.TheVariants as val
use Rattle.wcv_core.specs.declared.error.ErrorKind.TheVariants as error
use Rattle.wcv_core.specs.declared.features.WasmFeatures.{WasmFeatures}
use Rattle.wcv_core.proofs.Causes.{free_left, free_right}
use Rattle.wcv_matching.specs.ItemTests.{same_val}
use Rattle.wcv_syntax.specs.Model.{Canon_form}
use Rattle.wcv_syntax.specs.Model as form
use Rattle.wcv_syntax.specs.declared.canonical.CanonicalFunction.TheVariants as canon
use Rattle.wcv_types.specs.Arena.{Arena}
use Rattle.wcv_types.specs.Sets.{same_resource}
use Rattle.wcv_types.specs.declared.ids.ComponentCoreTypeId.{ComponentCoreTypeId}
use Rattle.wcv_types.specs.declared.ids.ComponentCoreTypeId.TheVariants as core_type_id
use Rattle.wcv_types.specs.declared.ids.ResourceId.{ResourceId}
use Rattle.wcv_flat.specs.RowTypes.{facts_size, word_type, params_of, results_of, words_form, AreKnown}
use Rattle.wcv_flat.specs.Rows.{Ask, Word, word, pointer_word, rep_word, element_word, start_word, spawned_word, Appends, canon_row}
use Rattle.wcv_flat.specs.Rows as row
use Rattle.wcv_flat.specs.Options.{pointer_size}
use Rattle.wcv_flat.specs.RowTypes.{taking}
use Rattle.wcv_flat.specs.declared.options.Abi.TheVariants as abi
use Rattle.wcv_flat.specs.declared.options.CanonicalOptions.{CanonicalOptions}
use Rattle.wcv_flat.specs.declared.options.Concurrency.TheVariants as concurrency
use Rattle.wcv_flat.specs.declared.options.PtrSize.TheVariants as ptr
use Rattle.wcv_flat.specs.declared.rows.RowFacts.{RowFacts}
use Rattle.wcv_types.specs.Tree.{parts}
use Rattle.wcv_types.proofs.Lists.{some-inj}
use Rattle.std.proofs.lemmas.Option.{none-some}
use Rattle.wcv_lower.specs.Canons.{core_id_at, start_param, first_param, options_in, canon_options, lowered_form, returning_form, row_form, func_at, slot_type_checks, slot_checks, is_start, takes_64_bits, ask_rules}
use Rattle.wcv_lower.specs.CanonOptions.{options_read}
use Rattle.wcv_lower.specs.Checks.{Checks, IsFree}
use Rattle.wcv_lower.specs.Context.{core_types}
use Rattle.wcv_lower.specs.CoreInstances.{test_found}
use Rattle.wcv_lower.specs.Trees.{Tree_context, Tree_stack, Type_tree, tree_reader}
use Rattle.wcv_lower.specs.Types.{same_vals, form_takes_and_gives}
use Rattle.wcv_core.specs.Features.{cm64, cm_threading}
use Rattle.wcv_lower.specs.Values.{has_feature, option_entry}
use Rattle.wcv_spaces.specs.Contents.{Contents, CoreIdStands, StateStands, is_number, context_of, stack_of}
use Rattle.wcv_spaces.specs.Looking.{any_resource, rep_of}
use Rattle.wcv_spaces.proofs.Found.{core_stands_at}
use Rattle.wcv_canon.specs.Facts.{rep_at, id_at, sub_id, param_at, told_in, all_told_in, function_at, row_facts}
use Rattle.wcv_canon.proofs.FoundFacts.{id_here}
use Rattle.wcv_canon.proofs.RowForms.{words_here}
use Rattle.wcv_canon.proofs.PlainForms.{IsPlain, IsPlainForm, plain_within, pointer_plain, core_type_plain}

-- ## Tests

true_both : (b c : Bool) → (b && c) ≡ true → (b ≡ true) × (c ≡ true)
true_both true c e = (refl, e)
true_both false c e = absurd (false≢true e)

true_either : {P : Type 0} (b c : Bool) → (b ≡ true → P) → (c ≡ true → P) → (b || c) ≡ true → P
true_either true c f g e = f refl
true_either false c f g e = g e

not_not : (b : Bool) → not b ≡ false → b ≡ true
not_not true e = refl
not_not false e = absurd (false≢true (sym e))

-- ## What represents a resource

rep_number : (r : ResourceId) (ds : List (ResourceId × Option ValType)) → All (λ (p : ResourceId × Option ValType). is_number p.1 ≡ true) ds → is_number (rep_of ds r) ≡ true
rep_number r [] h = refl
rep_number r (d ∷ ds) h = go (same_resource r d.0) (rep_number r ds (All-tail (λ (p : ResourceId × Option ValType). is_number p.1 ≡ true) d ds h))
  where
    go : (b : Bool) → is_number (rep_of ds r) ≡ true → is_number (option_and_then (λ (v : Option ValType). v) (cond b (Some d.1) (lookup (same_resource r) ds))) ≡ true
    go true e = All-head (λ (p : ResourceId × Option ValType). is_number p.1 ≡ true) d ds h
    go false e = e

at_number : (s : Contents) (k : ℕ) → All (λ (p : ResourceId × Option ValType). is_number p.1 ≡ true) s.defined_resources → is_number (rep_at s k) ≡ true
at_number s k h = go (option_and_then any_resource (slice_get s.spaces.types k))
  where
    own : (r : ResourceId) (v : Option ValType) → is_number v ≡ true → is_number (option_map (λ (p : ResourceId × ValType). p.1) (option_map (λ w. (r, w)) v)) ≡ true
    own r None e = refl
    own r (Some v) e = e

    go : (o : Option ResourceId) → is_number (option_map (λ (p : ResourceId × ValType). p.1) (option_and_then (λ r. option_map (λ v. (r, v)) (rep_of s.defined_resources r)) o)) ≡ true
    go None = refl
    go (Some r) = own r (rep_of s.defined_resources r) (rep_number r s.defined_resources h)

-- ## What starts a thread

-- one value alone, of a type that is a number
one_number : (w : ValType) → (is_number (Some w) ≡ true) → ((v : ValType) → same_val w v ≡ true → is_number (Some v) ≡ true) → (f : CompositeForm) → form_takes_and_gives (w ∷ []) [] f ≡ true → is_number (first_param f) ≡ true
one_number w n g (func_form [] rs) e = refl
one_number w n g (func_form (v ∷ []) rs) e = g v (true_both (same_val w v) true (true_both (same_val w v && true) (same_vals [] rs) e).0).0
one_number w n g (func_form (v ∷ u ∷ us) rs) e = absurd (false≢true (true_both (same_val w v) false (true_both (same_val w v && false) (same_vals [] rs) e).0).1)
one_number w n g (struct_form fs) e = refl
one_number w n g (array_form x) e = refl

as_i32 : (v : ValType) → same_val val.I32 v ≡ true → is_number (Some v) ≡ true
as_i32 val.I32 e = refl
as_i32 val.I64 e = refl
as_i32 v e = absurd (false≢true e)

as_i64 : (v : ValType) → same_val val.I64 v ≡ true → is_number (Some v) ≡ true
as_i64 val.I32 e = refl
as_i64 val.I64 e = refl
as_i64 v e = absurd (false≢true e)

starts_by_number : (fs : WasmFeatures) (t : SubForm) → is_start fs t ≡ true → is_number (first_param t.inner) ≡ true
starts_by_number fs t e =
    true_either (form_takes_and_gives (val.I32 ∷ []) [] t.inner) (takes_64_bits t && has_feature fs cm64)
    (one_number val.I32 refl as_i32 t.inner) (λ d. one_number val.I64 refl as_i64 t.inner (true_both (takes_64_bits t) (has_feature fs cm64) d).0) e

-- ## Facts

record Known (n : ℕ) (x : RowFacts) : Type 0 where
  rep : is_number x.rep ≡ true
  start : IfSome x.start (λ i. i.index < n)
  param : is_number x.start_param ≡ true

module _ (a : Arena) (s : Contents) (h : StateStands a s) where
  pub id_known : (t : ℕ) → IfSome (id_at s t) (λ i. i.index < total a.core)
  id_known t = go (slice_get s.spaces.core_types t) (λ x e. core_stands_at a s h core_types t x e)
    where
      go : (o : Option ComponentCoreTypeId) → ((x : ComponentCoreTypeId) → o ≡ Some x → CoreIdStands a core_types x) → IfSome (option_and_then sub_id o) (λ i. i.index < total a.core)
      go None p = tt
      go (Some (core_type_id.Sub i)) p = p (core_type_id.Sub i) refl
      go (Some (core_type_id.Module i)) p = tt

module _ (a : Arena) (s : Contents) (h : StateStands a s) (outer : List Tree_context) (fs : WasmFeatures) where
  abbrev Whole : Tree_stack
  Whole = stack_of a s outer

  param_known : (t : ℕ) → test_found (λ (i : CoreTypeId). not (is_start fs (table.type_at a.core i.index))) (core_id_at (context_of a s) t) ≡ false → is_number (param_at a s t) ≡ true
  param_known t e = go (id_at s t) (subst (λ (o : Option CoreTypeId). test_found (λ (i : CoreTypeId). not (is_start fs (table.type_at a.core i.index))) o ≡ false) (id_here a s h t) e)
    where
      go : (o : Option CoreTypeId) → test_found (λ (i : CoreTypeId). not (is_start fs (table.type_at a.core i.index))) o ≡ false → is_number (option_and_then (start_param a.core) o) ≡ true
      go None e = refl
      go (Some i) e = starts_by_number fs (table.type_at a.core i.index) (not_not (is_start fs (table.type_at a.core i.index)) e)

  told_known : (q : Ask) (x : RowFacts) → IsFree (ask_rules fs Whole q) → Known (total a.core) x → Known (total a.core) (told_in a s q x)
  told_known (row.local_resource_at k) x f w = record { rep = at_number s k h.numbers; start = w.start; param = w.param }
  told_known (row.memory_at m) x f w = record { rep = w.rep; start = w.start; param = w.param }
  told_known (row.spawn_type_at t) x f w = record { rep = w.rep; start = id_known a s h t; param = w.param }
  told_known (row.start_type_at t) x f w = record { rep = w.rep; start = w.start; param = param_known t f.0 }
  told_known (row.start_table_at n) x f w = record { rep = w.rep; start = w.start; param = w.param }
  told_known q x f w = w

  all_known : (qs : List Ask) (x : RowFacts) → IsFree (all_checks (ask_rules fs Whole) qs) → Known (total a.core) x → Known (total a.core) (all_told_in a s qs x)
  all_known [] x f w = w
  all_known (q ∷ qs) x f w =
      let cs : Checks = ask_rules fs Whole q in
      let ds : Checks = all_checks (ask_rules fs Whole) qs in
      told_known q (all_told_in a s qs x) (free_left cs ds f) (all_known qs x (free_right cs ds f) w)

-- ## Words

-- a type that stands in the row itself is a number
abbrev is_fine : Word → Bool
is_fine (word v) = is_number (Some v)
is_fine w = true

number_plain : (n : ℕ) (v : ValType) → is_number (Some v) ≡ true → IsPlain n v
number_plain n val.I32 e = tt
number_plain n val.I64 e = tt
number_plain n v e = absurd (false≢true e)

module _ (n : ℕ) (x : RowFacts) (k : Known n x) where
  or_number : (o : Option ValType) → is_number o ≡ true → IsPlain n (unwrap_or o val.I32)
  or_number None e = tt
  or_number (Some v) e = number_plain n v e

  spawned_plain : (o : Option CoreTypeId) → IfSome o (λ i. i.index < n) → IsPlain n (word_type (record x { start = o }) spawned_word)
  spawned_plain None w = (refl, tt)
  spawned_plain (Some i) w = (refl, w)

  word_plain : (w : Word) → is_fine w ≡ true → IsPlain n (word_type x w)
  word_plain (word v) e = number_plain n v e
  word_plain pointer_word e = pointer_plain n (facts_size x.options)
  word_plain rep_word e = or_number x.rep k.rep
  word_plain element_word e = pointer_plain n (unwrap_or x.table_index ptr.Ptr32)
  word_plain start_word e = or_number x.start_param k.param
  word_plain spawned_word e = spawned_plain x.start k.start

  words_plain : (ws : List Word) → list_all is_fine ws ≡ true → All (λ w. IsPlain n (word_type x w)) ws
  words_plain [] e = All-nil (λ w. IsPlain n (word_type x w))
  words_plain (w ∷ ws) e =
      let p = true_both (is_fine w) (list_all is_fine ws) e in
      All-cons (λ u. IsPlain n (word_type x u)) w ws (word_plain w p.0) (words_plain ws p.1)

abbrev are_fine : Appends → Bool
are_fine q = list_all is_fine (params_of q) && list_all is_fine (results_of q)

-- the type of a slot is a number
slot_number : (fs : WasmFeatures) (said : Option ValType) (v : ValType) (n : ℕ) → IsFree (slot_checks fs said v n) → is_number (Some v) ≡ true
slot_number fs said v n f =
    let rest : Checks = (error.Context, test_found (λ (w : ValType). not (same_val w v)) said) ∷ (needs fs cm_threading (nat_lt 0 n) ++ (error.Context, nat_lt 1 n) ∷ []) in
    go v (free_left (slot_type_checks fs v) rest (free_right (val_needs fs v) (slot_type_checks fs v ++ rest) f))
  where
    go : (v : ValType) → IsFree (slot_type_checks fs v) → is_number (Some v) ≡ true
    go val.I32 f = refl
    go val.I64 f = refl
    go v f = absurd (false≢true (sym f.0))

module _ (a : Arena) (s : Contents) (h : StateStands a s) (outer : List Tree_context) (fs : WasmFeatures) where
  abbrev RulesFree : Canon_form → Type 0
  RulesFree f = IsFree (all_checks (ask_rules fs (stack_of a s outer)) (canon_row f).asks)

  slot_fine : (v : ValType) (n : ℕ) → IsFree (slot_checks fs s.context_type v n ++ []) → is_number (Some v) ≡ true
  slot_fine v n f = slot_number fs s.context_type v n (free_left (slot_checks fs s.context_type v n) [] f)

  row_fine : (f : Canon_form) → RulesFree f → are_fine (canon_row f).appends ≡ true
  row_fine (form.builtin (canon.ContextGet v n)) r = λ j. slot_fine v n r.1 j && true
  row_fine (form.builtin (canon.ContextSet v n)) r = λ j. (slot_fine v n r.1 j && true) && true
  row_fine (form.builtin g) r = refl
  row_fine f r = refl

  facts_known : (f : Canon_form) → RulesFree f → Known (total a.core) (row_facts a s f)
  facts_known f r =
      all_known a s h outer fs (canon_row f).asks (record { options = option_map (options_read (context_of a s)) (options_in f); function = function_at s (canon_row f).appends; rep = None; start = None; start_param = None; table_index = None }) r
      (record { rep = refl; start = tt; param = refl })

  row_plain : (f : Canon_form) → RulesFree f → IsPlainForm (total a.core) (words_form (row_facts a s f) (canon_row f).appends)
  row_plain f r =
      let n : ℕ = total a.core in
      let x : RowFacts = row_facts a s f in
      let q : Appends = (canon_row f).appends in
      let p = true_both (list_all is_fine (params_of q)) (list_all is_fine (results_of q)) (row_fine f r) in
      let known : Known n x = facts_known f r in
      (All-map (IsPlain n) (word_type x) (params_of q) (words_plain n x known (params_of q) p.0), All-map (IsPlain n) (word_type x) (results_of q) (words_plain n x known (results_of q) p.1))

  -- the core type of each function has plain values
  by_plain : (f : Canon_form) (q : Appends) → IsPlainForm (total a.core) (words_form (row_facts a s f) q) → (w : CompositeForm) → row_form (stack_of a s outer) f q ≡ Some w → IsPlainForm (total a.core) w
  by_plain f (row.core_func ps rs) p w e = subst (IsPlainForm (total a.core)) (words_here a s h outer f (row.core_func ps rs) ∙ some-inj e) p
  by_plain f (row.shared_func ps rs) p w e = subst (IsPlainForm (total a.core)) (words_here a s h outer f (row.shared_func ps rs) ∙ some-inj e) p
  by_plain f (row.lowered k) p w e = go (func_at (context_of a s) k) e
    where
      opts : CanonicalOptions
      opts = canon_options (context_of a s) f

      go : (t : Option Type_tree) → option_map (lowered_form tree_reader opts) t ≡ Some w → IsPlainForm (total a.core) w
      go None e = absurd (none-some w e)
      go (Some t) e = subst (IsPlainForm (total a.core)) (some-inj e) (core_type_plain (total a.core) (pointer_size opts) abi.Lower opts.concurrency (parts (tree_reader.outline t)))
  by_plain f (row.returning r) p w e = go (option_entry (context_of a s) r) e
    where
      opts : CanonicalOptions
      opts = canon_options (context_of a s) f

      go : (t : Option Type_tree) → option_map (returning_form tree_reader opts) t ≡ Some w → IsPlainForm (total a.core) w
      go None e = absurd (none-some w e)
      go (Some t) e = subst (IsPlainForm (total a.core)) (some-inj e) (core_type_plain (total a.core) (pointer_size opts) abi.Lower concurrency.Sync (taking (tree_reader.outline t)))
  by_plain f (row.lifted t) p w e = absurd (none-some w e)

  pub form_plain : (f : Canon_form) → RulesFree f → (w : CompositeForm) → row_form (stack_of a s outer) f (canon_row f).appends ≡ Some w → IsPlainForm (total a.core) w
  form_plain f r w e = by_plain f (canon_row f).appends (row_plain f r) w e

  pub row_known : (f : Canon_form) → RulesFree f → AreKnown (total a.core) (row_facts a s f) (canon_row f).appends
  row_known f r =
      let n : ℕ = total a.core in
      let x : RowFacts = row_facts a s f in
      let q : Appends = (canon_row f).appends in
      let p = true_both (list_all is_fine (params_of q)) (list_all is_fine (results_of q)) (row_fine f r) in
      let known : Known n x = facts_known f r in
      let within : (w : Word) → IsPlain n (word_type x w) → IsValWithin n 0 (word_type x w) = λ w. plain_within n (word_type x w) in (
        All-weaker (λ w. IsPlain n (word_type x w)) (λ w. IsValWithin n 0 (word_type x w)) within (params_of q) (words_plain n x known (params_of q) p.0),
        All-weaker (λ w. IsPlain n (word_type x w)) (λ w. IsValWithin n 0 (word_type x w)) within (results_of q) (words_plain n x known (results_of q) p.1),
      )
