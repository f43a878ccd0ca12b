use Rattle.std.proofs.Common.{◌≡◌, ℕ, ◌+◌, zero, suc, ◌<◌, length, List, [], ◌∷◌, ◌++◌, map, take, drop, slice_index_or, slice_set, ap, sym, ◌∙◌, arith}
use Rattle.wcv_spaces.specs.Contents.{spent}
use Rattle.wcv_state.proofs.marks.mark_all_spent.Goals as goal

-- one more element that was mapped
mapped_more : {X : Type 0} (f : X → X) (xs : List X) (k : ℕ) (x : X) → k < length xs → x ≡ slice_index_or (map f (take k xs) ++ drop k xs) k x → slice_set (map f (take k xs) ++ drop k xs) k (f x) ≡ map f (take (suc k) xs) ++ drop (suc k) xs
mapped_more f [] k x h e = absurd (omega (arith, h))
mapped_more f (y ∷ ys) zero x h e = ap (λ z. f z ∷ ys) e
mapped_more f (y ∷ ys) (suc k) x h e = ap (λ zs. f y ∷ zs) (mapped_more f ys k x (omega (arith, h)) e)

pub loop-state-preserved : goal.loop-state-preserved
loop-state-preserved c =
    let ss = c.args.components.now in
    let xs = c.loop-state.components in
    let k : ℕ = c.loop-state.state-index in
    let r = c.state-item.result in
    let x = slice_index_or xs k r in
    let before : xs ≡ map spent (take k ss) ++ drop k ss = c.loop-state.invariant in
    let same : x ≡ slice_index_or xs k x = cc (c.state-item.is) in
    let read : x ≡ slice_index_or (map spent (take k ss) ++ drop k ss) k x = same ∙ ap (λ ys. slice_index_or ys k x) before in
    let written : slice_set xs k c.mark_spent.new.self ≡ slice_set (map spent (take k ss) ++ drop k ss) k (spent x) = λ j. slice_set (before j) k (c.mark_spent.ensures j) in
    let one : k + 1 ≡ suc k = omega arith in
    written ∙ mapped_more spent ss k x (omega arith) read ∙ sym (ap (λ n. map spent (take n ss) ++ drop n ss) one)
