-- Folds over lists, and pieces behind a text.
use Rattle.std.proofs.Common.{◌≡◌, ℕ, zero, suc, ◌+◌, ◌<◌, length, take, List, [], ◌∷◌, ◌++◌, Some, refl, arith, sym, ◌∙◌, ap, subst, append_assoc}
use Rattle.std.specs.Prelude.{slice_get, All}
use Rattle.std.specs.List.{fold}
use Rattle.std.proofs.lemmas.List.Elements.{All-get_or}
use Rattle.std.proofs.lemmas.List.Sums.{fold_more}
use Rattle.std.proofs.lemmas.Option.{get_or_from_slice_get, slice_get_within}

-- one element more
pub fold_step : {X Y : Type 0} (f : Y → X → Y) (a : Y) (xs : List X) (k : ℕ) (x : X) → slice_get xs k ≡ Some x → fold f a (take (k + 1) xs) ≡ f (fold f a (take k xs)) x
fold_step f a xs k x h = fold_more f a xs k x (slice_get_within xs k x h) ∙ ap (f (fold f a (take k xs))) (get_or_from_slice_get xs k x x h)

-- a piece is appended to a text that stands behind another one
pub piece_shown : (sent said text next x piece : List ℕ) → next ≡ text ++ piece → sent ++ text ≡ said ++ x → sent ++ next ≡ said ++ (x ++ piece)
piece_shown sent said text next x piece e h =
    ap (λ (y : List ℕ). sent ++ y) e ∙ sym (append_assoc sent text piece) ∙ ap (λ (y : List ℕ). y ++ piece) h ∙ append_assoc said x piece

-- what stands at a place within a list
pub found_there : {X : Type 0} (xs : List X) (k : ℕ) → k < length xs → (x : X) × (slice_get xs k ≡ Some x)
found_there [] k h = absurd (omega (arith, h))
found_there (x ∷ xs) zero h = (x, refl)
found_there (x ∷ xs) (suc k) h = found_there xs k (omega (arith, h))

-- what holds of each element holds of the one at a place
pub all_there : {X : Type 0} (P : X → Type 0) (xs : List X) (k : ℕ) (x : X) → slice_get xs k ≡ Some x → All P xs → P x
all_there P xs k x h all = subst P (get_or_from_slice_get xs k x x h) (All-get_or P xs k x (slice_get_within xs k x h) all)
