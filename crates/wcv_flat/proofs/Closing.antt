-- The core types of what canonical functions append name no type but those of the table.
use Rattle.std.proofs.Common.{◌≡◌, ℕ, ◌<◌, List, [], ◌∷◌, ◌++◌, map, get_or, subst, arith, cond, Bool, true, false, Option, Some, None, suc}
use Rattle.std.specs.List.{All}
use Rattle.std.specs.Option.{option_map}
use Rattle.std.proofs.lemmas.Option.{none-some}
use Rattle.std.proofs.lemmas.List.Elements.{All-nil, All-cons, All-append, All-map}
use Rattle.wcv_core.specs.CoreForm.{func_form, SubForm}
use Rattle.wcv_core.specs.CoreGroups.{IsHeapWithin, IsValWithin, IsFormWithin, IsClosed}
use Rattle.wcv_core.specs.CoreIds.{heap_ids, val_ids, all_ids}
use Rattle.wcv_core.specs.declared.core_types.HeapType.{HeapType}
use Rattle.wcv_core.specs.declared.core_types.HeapType.TheVariants as heap
use Rattle.wcv_core.specs.declared.core_types.ValType.{ValType}
use Rattle.wcv_core.specs.declared.core_types.ValType.TheVariants as core
use Rattle.wcv_types.specs.Arena.{Arena}
use Rattle.wcv_types.specs.Flat.{flat_all}
use Rattle.wcv_types.specs.Tree.{Parts, parts}
use Rattle.wcv_types.specs.Unfold.{option_slot, slot_tree, tree_at, trees}
use Rattle.wcv_types.specs.declared.ids.Part.TheVariants as p
use Rattle.wcv_types.specs.Open.{open_all}
use Rattle.wcv_types.specs.declared.flat_type.FlatType.{FlatType}
use Rattle.wcv_types.specs.declared.flat_type.FlatType.TheVariants as f
use Rattle.wcv_flat.specs.Flat.{pointer_type, core_words, as_core}
use Rattle.wcv_flat.specs.Options.{pointer_size}
use Rattle.wcv_flat.specs.RowTypes.{word_type, params_of, results_of, words_form, taking, function_form, told_form, sole, row_type, AreKnown}
use Rattle.wcv_flat.specs.Rows.{Appends, core_func, shared_func, lowered, returning, lifted}
use Rattle.wcv_flat.specs.Signature.{params_in, result_in, params_flat, result_flat, exceeds, spilled, param_limit, result_limit, return_pointer, core_params, core_results, core_type}
use Rattle.wcv_flat.specs.declared.options.Abi.{Abi}
use Rattle.wcv_flat.specs.declared.options.Abi.TheVariants as abi
use Rattle.wcv_flat.specs.declared.options.CanonicalOptions.{CanonicalOptions}
use Rattle.wcv_flat.specs.declared.options.Concurrency.{Concurrency}
use Rattle.wcv_flat.specs.declared.options.Concurrency.TheVariants as c
use Rattle.wcv_flat.specs.declared.options.PtrSize.{PtrSize}
use Rattle.wcv_flat.specs.declared.options.PtrSize.TheVariants as ptr
use Rattle.wcv_flat.specs.declared.rows.RowFacts.{RowFacts}
use Rattle.wcv_flat.specs.declared.rows.RowFunction.{RowFunction}
use Rattle.wcv_flat.specs.declared.rows.RowFunction.TheVariants as function
use Rattle.wcv_types.proofs.Lists.{some-inj}
use Rattle.wcv_flat.proofs.Opening.{all_opened}

-- the table has n types
module _ (n : ℕ) where
  abbrev Within : ValType → Type 0
  Within v = IsValWithin n 0 v

  -- ## A function type alone

  heap_within : (h : HeapType) → IsHeapWithin n 0 h → IsHeapWithin n 1 h
  heap_within (heap.Abstract a) w = w
  heap_within (heap.Index k) w = omega (arith, w)
  heap_within (heap.Id i) w = w

  val_within : (v : ValType) → Within v → IsValWithin n 1 v
  val_within (core.Ref r) w = heap_within r.heap w
  val_within core.I32 w = w
  val_within core.I64 w = w
  val_within core.F32 w = w
  val_within core.F64 w = w
  val_within core.V128 w = w

  heap_older : (h : HeapType) → IsHeapWithin n 0 h → All (λ i. i < n) (heap_ids h)
  heap_older (heap.Abstract a) w = All-nil (λ i. i < n)
  heap_older (heap.Index k) w = All-nil (λ i. i < n)
  heap_older (heap.Id i) w = All-cons (λ j. j < n) i.index [] w (All-nil (λ j. j < n))

  val_older : (v : ValType) → Within v → All (λ i. i < n) (val_ids v)
  val_older (core.Ref r) w = heap_older r.heap w
  val_older core.I32 w = All-nil (λ i. i < n)
  val_older core.I64 w = All-nil (λ i. i < n)
  val_older core.F32 w = All-nil (λ i. i < n)
  val_older core.F64 w = All-nil (λ i. i < n)
  val_older core.V128 w = All-nil (λ i. i < n)

  all_older : (vs : List ValType) → All Within vs → All (λ i. i < n) (all_ids val_ids vs)
  all_older [] h = All-nil (λ i. i < n)
  all_older (v ∷ vs) h = All-append (λ i. i < n) (val_ids v) (all_ids val_ids vs) (val_older v (h 0 v (omega arith))) (all_older vs (λ k d w. h (suc k) d (omega (arith, w))))

  sole_closed : (b : Bool) (ps rs : List ValType) → All Within ps → All Within rs → IsClosed n (sole b (func_form ps rs) ∷ [])
  sole_closed b ps rs h i = record {
    some = omega arith;
    older = All-append (λ i. i < n) (all_ids val_ids ps ++ all_ids val_ids rs) [] (All-append (λ i. i < n) (all_ids val_ids ps) (all_ids val_ids rs) (all_older ps h) (all_older rs i)) (All-nil (λ i. i < n));
    ordered = search;
    within = All-cons (λ (s : SubForm). IsFormWithin n 1 s.inner) (sole b (func_form ps rs)) [] ((λ k d w. val_within (get_or ps k d) (h k d w)), (λ k d w. val_within (get_or rs k d) (i k d w))) (All-nil (λ (s : SubForm). IsFormWithin n 1 s.inner));
  }

  -- ## A function that is lifted or lowered

  pointer_within : (s : PtrSize) → Within (pointer_type s)
  pointer_within ptr.Ptr32 = tt
  pointer_within ptr.Ptr64 = tt

  core_within : (s : PtrSize) (x : FlatType) → Within (as_core s x)
  core_within s f.I32 = tt
  core_within s f.I64 = tt
  core_within s f.F32 = tt
  core_within s f.F64 = tt
  core_within s f.Pointer = pointer_within s

  flat_within : {R I : Type 0} (s : PtrSize) (ps : Parts R I) → All Within (flat_all (core_words s) ps)
  flat_within s ps = subst (All Within) (all_opened s ps) (All-map Within (as_core s) (open_all ps) (λ k d w. core_within s (get_or (open_all ps) k d)))

  one_within : (v : ValType) → Within v → All Within (v ∷ [])
  one_within v h = All-cons Within v [] h (All-nil Within)

  either_within : (b : Bool) (xs ys : List ValType) → All Within xs → All Within ys → All Within (cond b xs ys)
  either_within true xs ys h i = h
  either_within false xs ys h i = i

  returned_within : (v : ValType) (a : Abi) (k : Concurrency) (rs : List ValType) → Within v → All Within (return_pointer v a k rs)
  returned_within v abi.Lift k rs h = All-nil Within
  returned_within v abi.Lower k rs h = either_within (exceeds (result_limit abi.Lower k) rs) (v ∷ []) [] (one_within v h) (All-nil Within)

  params_within : (v : ValType) (a : Abi) (k : Concurrency) (ps rs : List ValType) → Within v → All Within ps → All Within (core_params v a k ps rs)
  params_within v a k ps rs h i = All-append Within (spilled v (param_limit a k) ps) (return_pointer v a k rs) (either_within (exceeds (param_limit a k) ps) (v ∷ []) ps (one_within v h) i) (returned_within v a k rs h)

  results_within : (v : ValType) (a : Abi) (k : Concurrency) (rs : List ValType) → Within v → All Within rs → All Within (core_results core.I32 v a k rs)
  results_within v abi.Lift c.Sync rs h i = either_within (exceeds 1 rs) (v ∷ []) rs (one_within v h) i
  results_within v abi.Lower c.Sync rs h i = either_within (exceeds 1 rs) [] rs (All-nil Within) i
  results_within v abi.Lift (c.Async None) rs h i = All-nil Within
  results_within v abi.Lift (c.Async (Some x)) rs h i = one_within core.I32 tt
  results_within v abi.Lower (c.Async x) rs h i = one_within core.I32 tt

  lowered_closed : {R I : Type 0} (s : PtrSize) (a : Abi) (k : Concurrency) (ps : Parts R I) → IsClosed n (sole false (core_type s a k ps) ∷ [])
  lowered_closed s a k ps =
      sole_closed false (core_params (pointer_type s) a k (params_flat s ps) (result_flat s ps)) (core_results core.I32 (pointer_type s) a k (result_flat s ps))
      (params_within (pointer_type s) a k (params_flat s ps) (result_flat s ps) (pointer_within s) (flat_within s (params_in ps)))
      (results_within (pointer_type s) a k (result_flat s ps) (pointer_within s) (flat_within s (result_in ps)))

  -- ## Rows

  function_closed : (a : Arena) (o : CanonicalOptions) (g : RowFunction) → IsClosed n (sole false (function_form a o g) ∷ [])
  function_closed a o (function.Lowered i) = lowered_closed (pointer_size o) abi.Lower o.concurrency (parts (tree_at a (p.Func i)))
  function_closed a o (function.Returned v) = lowered_closed (pointer_size o) abi.Lower c.Sync (taking (slot_tree (trees a.nodes) (option_slot v)))

  told_closed : (a : Arena) (o : Option CanonicalOptions) (g : Option RowFunction) (s : SubForm) → option_map (sole false) (told_form a o g) ≡ Some s → IsClosed n (s ∷ [])
  told_closed a None g s e = absurd (none-some s e)
  told_closed a (Some o) None s e = absurd (none-some s e)
  told_closed a (Some o) (Some g) s e = subst (λ (x : SubForm). IsClosed n (x ∷ [])) (some-inj e) (function_closed a o g)

  words_closed : (x : RowFacts) (q : Appends) (b : Bool) → AreKnown n x q → IsClosed n (sole b (words_form x q) ∷ [])
  words_closed x q b h = sole_closed b (map (word_type x) (params_of q)) (map (word_type x) (results_of q)) (All-map Within (word_type x) (params_of q) h.0) (All-map Within (word_type x) (results_of q) h.1)

  pub row_closed : (a : Arena) (x : RowFacts) (q : Appends) (s : SubForm) → AreKnown n x q → row_type a x q ≡ Some s → IsClosed n (s ∷ [])
  row_closed a x (core_func ps rs) s h e = subst (λ (y : SubForm). IsClosed n (y ∷ [])) (some-inj e) (words_closed x (core_func ps rs) false h)
  row_closed a x (shared_func ps rs) s h e = subst (λ (y : SubForm). IsClosed n (y ∷ [])) (some-inj e) (words_closed x (shared_func ps rs) true h)
  row_closed a x (lowered k) s h e = told_closed a x.options x.function s e
  row_closed a x (returning v) s h e = told_closed a x.options x.function s e
  row_closed a x (lifted t) s h e = absurd (none-some s e)
