-- Core types whose values are numbers, or references to types of the table: they are their own closed forms.
use Rattle.std.proofs.Common.{◌≡◌, ℕ, List, [], ◌∷◌, ◌++◌, map, refl, sym, ap, subst, arith, Bool, true, false, not, cond, Some, None, get_or, All}
use Rattle.std.specs.Prelude.{nat_lt, length}
use Rattle.std.proofs.lemmas.Bool.Decides.{nat_tests}
use Rattle.std.proofs.lemmas.List.Elements.{All-nil, All-cons, All-head, All-tail, All-append, All-map, All-weaker}
use Rattle.wcv_core.specs.Checks.{all_checks}
use Rattle.wcv_core.specs.CoreForm.{CompositeForm, func_form, Group}
use Rattle.wcv_core.specs.CoreGroups.{IsHeapWithin, IsValWithin, IsClosed, total}
use Rattle.wcv_core.specs.CoreJoining.{order_checks}
use Rattle.wcv_core.specs.CoreWritten.{Core_entry, closed_mark, closed_heap, closed_val, closed_group, heap_checks, val_checks, index_checks}
use Rattle.wcv_core.specs.declared.core_types.HeapType.{HeapType}
use Rattle.wcv_core.specs.declared.core_types.HeapType.TheVariants as heap
use Rattle.wcv_core.specs.declared.core_types.RefType.{RefType}
use Rattle.wcv_core.specs.declared.core_types.ValType.{ValType}
use Rattle.wcv_core.specs.declared.core_types.ValType.TheVariants as val
use Rattle.wcv_core.proofs.Causes.{free_both}
use Rattle.wcv_types.specs.Arena.{Arena}
use Rattle.wcv_types.specs.Flat.{flat_all}
use Rattle.wcv_types.specs.Open.{open_all}
use Rattle.wcv_types.specs.Tree.{Parts}
use Rattle.wcv_types.specs.declared.flat_type.FlatType.{FlatType}
use Rattle.wcv_types.specs.declared.flat_type.FlatType.TheVariants as f
use Rattle.wcv_flat.specs.Flat.{pointer_type, core_words, as_core}
use Rattle.wcv_flat.specs.RowTypes.{sole, word_type}
use Rattle.wcv_flat.specs.Rows.{word, core_func}
use Rattle.wcv_flat.specs.Signature.{params_in, result_in, params_flat, result_flat, exceeds, spilled, param_limit, result_limit, return_pointer, core_params, core_results, core_type}
use Rattle.wcv_flat.specs.declared.options.Abi.{Abi}
use Rattle.wcv_flat.specs.declared.options.Abi.TheVariants as abi
use Rattle.wcv_flat.specs.declared.options.Concurrency.{Concurrency}
use Rattle.wcv_flat.specs.declared.options.Concurrency.TheVariants as c
use Rattle.wcv_flat.specs.declared.options.PtrSize.{PtrSize}
use Rattle.wcv_flat.specs.declared.options.PtrSize.TheVariants as ptr
use Rattle.wcv_flat.specs.declared.rows.RowFacts.{RowFacts}
use Rattle.wcv_flat.proofs.Closing.{row_closed}
use Rattle.wcv_flat.proofs.Opening.{all_opened}
use Rattle.wcv_lower.specs.Canons.{alone}
use Rattle.wcv_lower.specs.Checks.{Checks, IsFree}
use Rattle.wcv_lower.specs.CoreItems.{is_closable}
use Rattle.wcv_lower.proofs.ModulesMade.{said_free}

-- ## Values

-- a number, or a reference without a mark to a type with an id below n
abbrev pub IsPlainRef : ℕ → RefType → Type 0
IsPlainRef n r = (r.shared ≡ false) × IsHeapWithin n 0 r.heap

abbrev pub IsPlain : ℕ → ValType → Type 0
IsPlain n (val.Ref r) = IsPlainRef n r
IsPlain n v = Unit {0}

module _ (n : ℕ) where
  pub plain_within : (v : ValType) → IsPlain n v → IsValWithin n 0 v
  plain_within (val.Ref r) w = w.1
  plain_within val.I32 w = tt
  plain_within val.I64 w = tt
  plain_within val.F32 w = tt
  plain_within val.F64 w = tt
  plain_within val.V128 w = tt

  module _ (es : List Core_entry) where
    ref_stays : (r : RefType) (h : HeapType) → r.shared ≡ false → IsHeapWithin n 0 h → val.Ref (record { nullable = r.nullable; shared = closed_mark h r.shared; heap = closed_heap es h }) ≡ val.Ref (record { nullable = r.nullable; shared = r.shared; heap = h })
    ref_stays r (heap.Abstract b) e w = refl
    ref_stays r (heap.Index k) e w = Prim.absurd (omega (arith, w))
    ref_stays r (heap.Id i) e w = λ j. val.Ref (record { nullable = r.nullable; shared = sym e j; heap = heap.Id i })

    val_stays : (v : ValType) → IsPlain n v → closed_val es v ≡ v
    val_stays (val.Ref r) w = ref_stays r r.heap w.0 w.1
    val_stays val.I32 w = refl
    val_stays val.I64 w = refl
    val_stays val.F32 w = refl
    val_stays val.F64 w = refl
    val_stays val.V128 w = refl

    vals_stay : (vs : List ValType) → All (IsPlain n) vs → map (closed_val es) vs ≡ vs
    vals_stay [] h = refl
    vals_stay (v ∷ vs) h = λ j. val_stays v (All-head (IsPlain n) v vs h) j ∷ vals_stay vs (All-tail (IsPlain n) v vs h) j

    heap_free : (len : ℕ) (h : HeapType) → IsHeapWithin n 0 h → IsFree (heap_checks n es len h)
    heap_free len (heap.Abstract b) w = tt
    heap_free len (heap.Index k) w = Prim.absurd (omega (arith, w))
    heap_free len (heap.Id i) w = let e : nat_lt i.index n ≡ true = grind (arith, nat_tests, w) in (ap not e, tt)

    val_free : (len : ℕ) (v : ValType) → IsPlain n v → IsFree (val_checks n es len v)
    val_free len (val.Ref r) w = heap_free len r.heap w.1
    val_free len val.I32 w = tt
    val_free len val.I64 w = tt
    val_free len val.F32 w = tt
    val_free len val.F64 w = tt
    val_free len val.V128 w = tt

    vals_free : (len : ℕ) (vs : List ValType) → All (IsPlain n) vs → IsFree (all_checks (val_checks n es len) vs)
    vals_free len [] h = tt
    vals_free len (v ∷ vs) h = free_both (val_checks n es len v) (all_checks (val_checks n es len) vs) (val_free len v (All-head (IsPlain n) v vs h)) (vals_free len vs (All-tail (IsPlain n) v vs h))

-- ## Function types

-- those of its parameters and of its results
abbrev pub IsPlainForm : ℕ → CompositeForm → Type 0
IsPlainForm n (func_form ps rs) = All (IsPlain n) ps × All (IsPlain n) rs
IsPlainForm n w = ⊥

module _ (n : ℕ) (es : List Core_entry) (b : Bool) where
  -- alone in its group it is its own closed form
  pub form_stays : (w : CompositeForm) → IsPlainForm n w → closed_group es (alone b w) ≡ alone b w
  form_stays (func_form ps rs) h = λ j. sole b (func_form (vals_stay n es ps h.0 j) (vals_stay n es rs h.1 j)) ∷ []
  form_stays w h = absurd h

  -- what is looked at in the group alone
  pub form_free : (w : CompositeForm) → IsPlainForm n w → IsFree (all_checks (index_checks n es 1) (alone b w) ++ order_checks (length es) (alone b w))
  form_free (func_form ps rs) h =
      let ins : Checks = all_checks (val_checks n es 1) ps in
      let outs : Checks = all_checks (val_checks n es 1) rs in
      free_both ((ins ++ outs) ++ []) (order_checks (length es) (alone b (func_form ps rs))) (free_both (ins ++ outs) [] (free_both ins outs (vals_free n es 1 ps h.0) (vals_free n es 1 rs h.1)) tt) (refl, tt)
  form_free w h = absurd h

pub form_closable : (gs : List Group) (es : List Core_entry) (b : Bool) (w : CompositeForm) → IsPlainForm (total gs) w → is_closable gs es (alone b w) ≡ true
form_closable gs es b w h = said_free (all_checks (index_checks (total gs) es 1) (alone b w) ++ order_checks (length es) (alone b w)) (form_free (total gs) es b w h)

-- as a row has it, with types alone
words_back : (x : RowFacts) (vs : List ValType) → map (word_type x) (map word vs) ≡ vs
words_back x [] = refl
words_back x (v ∷ vs) = λ j. v ∷ words_back x vs j

pub plain_closed : (a : Arena) (n : ℕ) (ps rs : List ValType) → IsPlainForm n (func_form ps rs) → IsClosed n (sole false (func_form ps rs) ∷ [])
plain_closed a n ps rs h =
    let x : RowFacts = record { options = None; function = None; rep = None; start = None; start_param = None; table_index = None } in
    let known : (vs : List ValType) → All (IsPlain n) vs → All (λ w. IsValWithin n 0 (word_type x w)) (map word vs) =
    λ vs g. All-map (λ w. IsValWithin n 0 (word_type x w)) word vs (All-weaker (IsPlain n) (IsValWithin n 0) (plain_within n) vs g) in
    row_closed n a x (core_func (map word ps) (map word rs)) (sole false (func_form ps rs)) (known ps h.0, known rs h.1) (λ j. Some (sole false (func_form (words_back x ps j) (words_back x rs j))))

-- ## Functions that are lifted or lowered

module _ (n : ℕ) where
  abbrev Plain : ValType → Type 0
  Plain v = IsPlain n v

  pub pointer_plain : (s : PtrSize) → Plain (pointer_type s)
  pointer_plain ptr.Ptr32 = tt
  pointer_plain ptr.Ptr64 = tt

  core_plain : (s : PtrSize) (x : FlatType) → Plain (as_core s x)
  core_plain s f.I32 = tt
  core_plain s f.I64 = tt
  core_plain s f.F32 = tt
  core_plain s f.F64 = tt
  core_plain s f.Pointer = pointer_plain s

  flat_plain : {R I : Type 0} (s : PtrSize) (ps : Parts R I) → All Plain (flat_all (core_words s) ps)
  flat_plain s ps = subst (All Plain) (all_opened s ps) (All-map Plain (as_core s) (open_all ps) (λ k d w. core_plain s (get_or (open_all ps) k d)))

  one_plain : (v : ValType) → Plain v → All Plain (v ∷ [])
  one_plain v h = All-cons Plain v [] h (All-nil Plain)

  either_plain : (b : Bool) (xs ys : List ValType) → All Plain xs → All Plain ys → All Plain (cond b xs ys)
  either_plain true xs ys h i = h
  either_plain false xs ys h i = i

  module _ (v : ValType) (h : Plain v) (k : Concurrency) where
    returned_plain : (m : Abi) (rs : List ValType) → All Plain (return_pointer v m k rs)
    returned_plain abi.Lift rs = All-nil Plain
    returned_plain abi.Lower rs = either_plain (exceeds (result_limit abi.Lower k) rs) (v ∷ []) [] (one_plain v h) (All-nil Plain)

    params_plain : (m : Abi) (ps rs : List ValType) → All Plain ps → All Plain (core_params v m k ps rs)
    params_plain m ps rs i = All-append Plain (spilled v (param_limit m k) ps) (return_pointer v m k rs) (either_plain (exceeds (param_limit m k) ps) (v ∷ []) ps (one_plain v h) i) (returned_plain m rs)

  results_plain : (v : ValType) → Plain v → (m : Abi) (k : Concurrency) (rs : List ValType) → All Plain rs → All Plain (core_results val.I32 v m k rs)
  results_plain v h abi.Lift c.Sync rs i = either_plain (exceeds 1 rs) (v ∷ []) rs (one_plain v h) i
  results_plain v h abi.Lower c.Sync rs i = either_plain (exceeds 1 rs) [] rs (All-nil Plain) i
  results_plain v h abi.Lift (c.Async None) rs i = All-nil Plain
  results_plain v h abi.Lift (c.Async (Some x)) rs i = one_plain val.I32 tt
  results_plain v h abi.Lower (c.Async x) rs i = one_plain val.I32 tt

  pub core_type_plain : {R I : Type 0} (s : PtrSize) (m : Abi) (k : Concurrency) (ps : Parts R I) → IsPlainForm n (core_type s m k ps)
  core_type_plain s m k ps = (
    params_plain (pointer_type s) (pointer_plain s) k m (params_flat s ps) (result_flat s ps) (flat_plain s (params_in ps)),
    results_plain (pointer_type s) (pointer_plain s) m k (result_flat s ps) (flat_plain s (result_in ps)),
  )
