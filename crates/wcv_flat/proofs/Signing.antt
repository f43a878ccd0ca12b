-- Core types of functions, from flat types that are cut and with pointers left open.
use Rattle.std.proofs.Common.{◌≡◌, ℕ, suc, ◌≤◌, ◌<◌, List, [], ◌∷◌, ◌++◌, length, take, drop, refl, sym, ◌∙◌, ap, arith, cond, nat_lt, Bool, true, false, Some, None, take_all, ◌+◌, ◌||◌, get_or, add-one, append-nil, length-append, drop-cons}
use Rattle.std.specs.Prelude.{slice_get}
use Rattle.std.proofs.Math.ListN.{drop_of_length-le}
use Rattle.std.proofs.lemmas.Bool.Decides.{nat_tests}
use Rattle.std.proofs.lemmas.List.{length-take, map-append}
use Rattle.wcv_core.specs.Names.{Name}
use Rattle.wcv_core.specs.declared.core_types.ValType.{ValType}
use Rattle.wcv_core.specs.declared.core_types.ValType.TheVariants as core
use Rattle.wcv_types.specs.Abi.{pointer, contains, any_contains}
use Rattle.wcv_types.specs.Arena.{Arena}
use Rattle.wcv_types.specs.Tree.{Text, here, label, Parts, none, part}
use Rattle.wcv_types.specs.Unfold.{Type_tree, Slot, value_slot, option_slot, field_slots, slot_tree, slot_parts, trees}
use Rattle.wcv_types.specs.Open.{open_all, open_flat}
use Rattle.wcv_types.specs.declared.shapes.ComponentFuncType.{ComponentFuncType}
use Rattle.wcv_types.specs.declared.shapes.ComponentValType.{ComponentValType}
use Rattle.wcv_types.specs.declared.flat_type.FlatType.{FlatType}
use Rattle.wcv_types.specs.declared.flat_type.FlatType.TheVariants as f
use Rattle.wcv_types.proofs.Each.{length-mapped}
use Rattle.wcv_types.proofs.Lists.{take-next}
use Rattle.wcv_flat.specs.Flat.{pointer_type, as_core, cores}
use Rattle.wcv_flat.specs.Functions.{func_parts}
use Rattle.wcv_flat.specs.Options.{pointer_size, params_use_memory, result_uses_memory, result_points, use_checks, type_checks}
use Rattle.wcv_flat.specs.RowTypes.{sync, taking}
use Rattle.wcv_flat.specs.Signature.{params_in, result_in, params_flat, result_flat, exceeds, spilled, param_limit, result_limit, return_pointer, core_params, core_results}
use Rattle.wcv_flat.specs.declared.options.Abi.{Abi}
use Rattle.wcv_flat.specs.declared.options.Abi.TheVariants as abi
use Rattle.wcv_flat.specs.declared.options.CanonicalOptions.{CanonicalOptions}
use Rattle.wcv_flat.specs.declared.options.Concurrency.{Concurrency}
use Rattle.wcv_flat.specs.declared.options.Concurrency.TheVariants as c
use Rattle.wcv_flat.specs.declared.options.PtrSize.{PtrSize}
use Rattle.wcv_flat.proofs.Opening.{all_opened}

or_false : (b : Bool) → (b || false) ≡ b
or_false true = refl
or_false false = refl

-- ## The parts of a function

pub params_are : (ts : List Type_tree) (fs : List (Text × ComponentValType)) (x : Slot) → params_in (slot_parts ts (field_slots fs ((here, x) ∷ []))) ≡ slot_parts ts (field_slots fs [])
params_are ts [] x = refl
params_are ts (g ∷ fs) x = ap (λ (ps : Parts Name Name). part (label g.0) (slot_tree ts (value_slot g.1)) ps) (params_are ts fs x)

pub result_is : (ts : List Type_tree) (fs : List (Text × ComponentValType)) (x : Slot) → result_in (slot_parts ts (field_slots fs ((here, x) ∷ []))) ≡ part here (slot_tree ts x) none
result_is ts [] x = refl
result_is ts (g ∷ fs) x = result_is ts fs x

-- the parameters from the k-th on
abbrev pub params_from : List Type_tree → ComponentFuncType → ℕ → Parts Name Name
params_from ts s k = slot_parts ts (field_slots (drop k s.params.items) [])

pub params_next : (ts : List Type_tree) (s : ComponentFuncType) (k : ℕ) (g : Text × ComponentValType) → k < length s.params.items → g ≡ get_or s.params.items k g →
    params_from ts s k ≡ part (label g.0) (slot_tree ts (value_slot g.1)) (params_from ts s (k + 1))
params_next ts s k g w e =
    ap (λ gs. slot_parts ts (field_slots gs [])) (drop-cons s.params.items k g w ∙ ap (λ (h : Text × ComponentValType). h ∷ drop (suc k) s.params.items) (sym e)) ∙
    ap (λ (j : ℕ). part (label g.0) (slot_tree ts (value_slot g.1)) (params_from ts s j)) (sym (add-one k))

pub params_last : (ts : List Type_tree) (s : ComponentFuncType) (k : ℕ) → length s.params.items ≤ k → params_from ts s k ≡ none
params_last ts s k h = ap (λ gs. slot_parts ts (field_slots gs [])) (drop_of_length-le s.params.items h)

pub all_params : (a : Arena) (s : ComponentFuncType) → params_from (trees a.nodes) s 0 ≡ params_in (func_parts a s)
all_params a s = sym (params_are (trees a.nodes) s.params.items (option_slot s.result))

pub the_result : (a : Arena) (s : ComponentFuncType) → result_in (func_parts a s) ≡ part here (slot_tree (trees a.nodes) (option_slot s.result)) none
the_result a s = result_is (trees a.nodes) s.params.items (option_slot s.result)

pub result_alone : (a : Arena) (s : ComponentFuncType) → open_all (result_in (func_parts a s)) ≡ open_flat (slot_tree (trees a.nodes) (option_slot s.result))
result_alone a s = ap (λ (ps : Parts Name Name). open_all ps) (the_result a s) ∙ append-nil (open_flat (slot_tree (trees a.nodes) (option_slot s.result)))

pub result_has : (a : Arena) (s : ComponentFuncType) → any_contains pointer (result_in (func_parts a s)) ≡ contains pointer (slot_tree (trees a.nodes) (option_slot s.result))
result_has a s = ap (any_contains pointer) (the_result a s) ∙ or_false (contains pointer (slot_tree (trees a.nodes) (option_slot s.result)))

-- ## Flat types that are cut

cut_exceeds : {X : Type 0} (limit : ℕ) (xs : List X) → limit ≤ 16 → nat_lt limit (length (take 17 xs)) ≡ nat_lt limit (length xs)
cut_exceeds limit xs h = let e = length-take 17 xs in grind (arith, nat_tests, e, h)

pub cores_exceed : (s : PtrSize) (limit : ℕ) (xs : List FlatType) → limit ≤ 16 → exceeds limit (take 17 xs) ≡ exceeds limit (cores s xs)
cores_exceed s limit xs h = cut_exceeds limit xs h ∙ ap (nat_lt limit) (sym (length-mapped (as_core s) xs))

-- what does not exceed the limit is kept whole
cut_whole : {X : Type 0} (limit : ℕ) (xs : List X) → limit ≤ 16 → exceeds limit (take 17 xs) ≡ false → take 17 xs ≡ xs
cut_whole limit xs h e = take_all 17 xs (let w = length-take 17 xs in grind (arith, nat_tests, w, h, e))

pub limit_within : (a : Abi) (k : Concurrency) → param_limit a k ≤ 16
limit_within abi.Lift c.Sync = omega arith
limit_within abi.Lift (c.Async x) = omega arith
limit_within abi.Lower c.Sync = omega arith
limit_within abi.Lower (c.Async x) = omega arith

pub result_within : (a : Abi) (k : Concurrency) → result_limit a k ≤ 16
result_within abi.Lift c.Sync = omega arith
result_within abi.Lift (c.Async x) = omega arith
result_within abi.Lower c.Sync = omega arith
result_within abi.Lower (c.Async x) = omega arith

spilled_within : (limit : ℕ) (xs : List FlatType) → limit ≤ 16 → length (spilled f.Pointer limit xs) ≤ 16
spilled_within limit xs h = go (exceeds limit xs) refl
  where
    go : (b : Bool) → exceeds limit xs ≡ b → length (cond b (f.Pointer ∷ []) xs) ≤ 16
    go true e = omega arith
    go false e = grind (arith, nat_tests, h, e)

returned_within : (a : Abi) (k : Concurrency) (rs : List FlatType) → length (return_pointer f.Pointer a k rs) ≤ 1
returned_within abi.Lift k rs = omega arith
returned_within abi.Lower k rs = go (exceeds (result_limit abi.Lower k) rs)
  where
    go : (b : Bool) → length (cond b (f.Pointer ∷ []) []) ≤ 1
    go true = omega arith
    go false = omega arith

-- the flat types of core parameters are kept whole
pub params_whole : (a : Abi) (k : Concurrency) (ps rs xs ys zs : List FlatType) → xs ≡ spilled f.Pointer (param_limit a k) ps → ys ≡ return_pointer f.Pointer a k rs → zs ≡ take 17 (xs ++ ys) → zs ≡ core_params f.Pointer a k ps rs
params_whole a k ps rs xs ys zs x y z =
    let one = spilled_within (param_limit a k) ps (limit_within a k) in
    let two = returned_within a k rs in
    let both = length-append (spilled f.Pointer (param_limit a k) ps) (return_pointer f.Pointer a k rs) in
    z ∙ (λ i. take 17 (x i ++ y i)) ∙ take_all 17 (core_params f.Pointer a k ps rs) (omega (arith, one, two, both))

-- ## As core types

-- one more of them
pub cores_next : (s : PtrSize) (xs : List FlatType) (k : ℕ) (x : FlatType) (items more : List ValType) (y : ValType) → slice_get xs k ≡ Some x → y ≡ as_core s x → items ≡ cores s (take k xs) → more ≡ items ++ y ∷ [] → more ≡ cores s (take (k + 1) xs)
cores_next s xs k x items more y e o h w =
    w ∙ (λ i. h i ++ o i ∷ []) ∙ sym (map-append (as_core s) (take k xs) (x ∷ [])) ∙ ap (cores s) (sym (take-next xs k x e) ∙ ap (λ (j : ℕ). take j xs) (sym (add-one k)))

spilled_cores : (s : PtrSize) (limit : ℕ) (xs : List FlatType) → limit ≤ 16 → cores s (spilled f.Pointer limit (take 17 xs)) ≡ spilled (pointer_type s) limit (cores s xs)
spilled_cores s limit xs h = go (exceeds limit (take 17 xs)) refl
  where
    go : (b : Bool) → exceeds limit (take 17 xs) ≡ b → cores s (cond b (f.Pointer ∷ []) (take 17 xs)) ≡ cond (exceeds limit (cores s xs)) (pointer_type s ∷ []) (cores s xs)
    go true e = ap (λ (b : Bool). cond b (pointer_type s ∷ []) (cores s xs)) (sym e ∙ cores_exceed s limit xs h)
    go false e =
        ap (cores s) (cut_whole limit xs h e) ∙ ap (λ (b : Bool). cond b (pointer_type s ∷ []) (cores s xs)) (sym e ∙ cores_exceed s limit xs h)

returned_cores : (s : PtrSize) (limit : ℕ) (xs : List FlatType) → limit ≤ 16 → cores s (cond (exceeds limit (take 17 xs)) (f.Pointer ∷ []) []) ≡ cond (exceeds limit (cores s xs)) (pointer_type s ∷ []) []
returned_cores s limit xs h = ap (λ (b : Bool). cores s (cond b (f.Pointer ∷ []) [])) (cores_exceed s limit xs h) ∙ go (exceeds limit (cores s xs))
  where
    go : (b : Bool) → cores s (cond b (f.Pointer ∷ []) []) ≡ cond b (pointer_type s ∷ []) []
    go true = refl
    go false = refl

kept_cores : (s : PtrSize) (xs : List FlatType) → cores s (cond (exceeds 1 (take 17 xs)) [] (take 17 xs)) ≡ cond (exceeds 1 (cores s xs)) [] (cores s xs)
kept_cores s xs = go (exceeds 1 (take 17 xs)) refl
  where
    go : (b : Bool) → exceeds 1 (take 17 xs) ≡ b → cores s (cond b [] (take 17 xs)) ≡ cond (exceeds 1 (cores s xs)) [] (cores s xs)
    go true e = ap (λ (b : Bool). cond b [] (cores s xs)) (sym e ∙ cores_exceed s 1 xs (omega arith))
    go false e = ap (cores s) (cut_whole 1 xs (omega arith) e) ∙ ap (λ (b : Bool). cond b [] (cores s xs)) (sym e ∙ cores_exceed s 1 xs (omega arith))

pointer_cores : (s : PtrSize) (a : Abi) (k : Concurrency) (rs : List FlatType) → cores s (return_pointer f.Pointer a k (take 17 rs)) ≡ return_pointer (pointer_type s) a k (cores s rs)
pointer_cores s abi.Lift k rs = refl
pointer_cores s abi.Lower k rs = returned_cores s (result_limit abi.Lower k) rs (result_within abi.Lower k)

params_cores : (s : PtrSize) (a : Abi) (k : Concurrency) (ps rs : List FlatType) → cores s (core_params f.Pointer a k (take 17 ps) (take 17 rs)) ≡ core_params (pointer_type s) a k (cores s ps) (cores s rs)
params_cores s a k ps rs =
    map-append (as_core s) (spilled f.Pointer (param_limit a k) (take 17 ps)) (return_pointer f.Pointer a k (take 17 rs)) ∙
    (λ i. spilled_cores s (param_limit a k) ps (limit_within a k) i ++ pointer_cores s a k rs i)

results_cores : (s : PtrSize) (a : Abi) (k : Concurrency) (rs : List FlatType) → cores s (core_results f.I32 f.Pointer a k (take 17 rs)) ≡ core_results core.I32 (pointer_type s) a k (cores s rs)
results_cores s abi.Lift c.Sync rs = spilled_cores s 1 rs (omega arith)
results_cores s abi.Lower c.Sync rs = kept_cores s rs
results_cores s abi.Lift (c.Async None) rs = refl
results_cores s abi.Lift (c.Async (Some x)) rs = refl
results_cores s abi.Lower (c.Async x) rs = refl

-- the core type of a function
module _ (s : PtrSize) (a : Abi) (k : Concurrency) (t : Parts Name Name) (ps rs : List FlatType)
    (params : ps ≡ take 17 (open_all (params_in t))) (gives : rs ≡ take 17 (open_all (result_in t))) where
  pub core_params_are : cores s (core_params f.Pointer a k ps rs) ≡ core_params (pointer_type s) a k (params_flat s t) (result_flat s t)
  core_params_are =
      (λ i. cores s (core_params f.Pointer a k (params i) (gives i))) ∙ params_cores s a k (open_all (params_in t)) (open_all (result_in t)) ∙
      (λ i. core_params (pointer_type s) a k (all_opened s (params_in t) i) (all_opened s (result_in t) i))

  pub core_results_are : cores s (core_results f.I32 f.Pointer a k rs) ≡ core_results core.I32 (pointer_type s) a k (result_flat s t)
  core_results_are =
      ap (λ xs. cores s (core_results f.I32 f.Pointer a k xs)) gives ∙ results_cores s a k (open_all (result_in t)) ∙
      ap (core_results core.I32 (pointer_type s) a k) (all_opened s (result_in t))

  pub params_exceed : (limit : ℕ) → limit ≤ 16 → exceeds limit ps ≡ exceeds limit (params_flat s t)
  params_exceed limit h = ap (exceeds limit) params ∙ cores_exceed s limit (open_all (params_in t)) h ∙ ap (exceeds limit) (all_opened s (params_in t))

  pub result_exceeds : (limit : ℕ) → limit ≤ 16 → exceeds limit rs ≡ exceeds limit (result_flat s t)
  result_exceeds limit h = ap (exceeds limit) gives ∙ cores_exceed s limit (open_all (result_in t)) h ∙ ap (exceeds limit) (all_opened s (result_in t))

  -- what the function asks of options, from its flat types that are cut
  pub uses_are : (o : CanonicalOptions) → k ≡ o.concurrency → s ≡ pointer_size o →
      use_checks o a (exceeds (param_limit a k) ps || any_contains pointer (params_in t)) (exceeds (result_limit a k) rs || result_points t) (result_points t) ≡ type_checks o a t
  uses_are o e z =
      (λ i. use_checks o a (params_exceed (param_limit a k) (limit_within a k) i || any_contains pointer (params_in t)) (result_exceeds (result_limit a k) (result_within a k) i || result_points t) (result_points t)) ∙
      (λ i. use_checks o a (params_use_memory (z i) a (e i) t) (result_uses_memory (z i) a (e i) t) (result_points t))

-- the core type of a function that takes a value and gives none
module _ (t : Type_tree) (ps : List FlatType) (params : ps ≡ take 17 (open_flat t)) where
  pub value_alone : ps ≡ take 17 (open_all (params_in (taking t)))
  value_alone = params ∙ ap (take 17) (sym (append-nil (open_flat t)))

  pub value_uses : (o : CanonicalOptions) → use_checks (sync o) abi.Lower (exceeds 16 ps || contains pointer t) false false ≡ type_checks (sync o) abi.Lower (taking t)
  value_uses o = λ i. use_checks (sync o) abi.Lower
      (params_exceed (pointer_size o) abi.Lower c.Sync (taking t) ps [] value_alone refl 16 (omega arith) i || sym (or_false (contains pointer t)) i) false false
