-- Lists that a walk goes through by positions.
use Rattle.std.proofs.Common.{◌≡◌, ℕ, zero, suc, ◌+◌, ◌≤◌, ◌<◌, arith, subst, List, [], ◌∷◌, drop, drop-cons, length, refl, sym, ◌∙◌, ap, add-one, Some, None}
use Rattle.std.specs.Prelude.{slice_get, All}
use Rattle.std.proofs.lemmas.Option.{get_or_from_slice_get, slice_get_within}

pub drop_found : {X : Type 0} (xs : List X) (k : ℕ) (x : X) → slice_get xs k ≡ Some x → drop k xs ≡ x ∷ drop (k + 1) xs
drop_found xs k x h =
    drop-cons xs k x (slice_get_within xs k x h) ∙ ap (λ y. y ∷ drop (suc k) xs) (get_or_from_slice_get xs k x x h) ∙ ap (λ j. x ∷ drop j xs) (sym (add-one k))

pub drop_past : {X : Type 0} (xs : List X) (k : ℕ) → length xs ≤ k → drop k xs ≡ []
drop_past [] zero h = refl
drop_past [] (suc k) h = refl
drop_past (x ∷ xs) zero h = absurd (omega (arith, h))
drop_past (x ∷ xs) (suc k) h = drop_past xs k (omega (arith, h))

pub none_within : {X : Type 0} (xs : List X) (k : ℕ) → None ≡ slice_get xs k → k < length xs → ⊥
none_within [] k e h = absurd (omega (arith, h))
none_within (x ∷ xs) zero e h = cc
none_within (x ∷ xs) (suc k) e h = none_within xs k e (omega (arith, h))

pub found_holds : {X : Type 0} (P : X → Type 0) (xs : List X) (k : ℕ) (x : X) → All P xs → slice_get xs k ≡ Some x → P x
found_holds P xs k x w h = subst P (get_or_from_slice_get xs k x x h) (w k x (slice_get_within xs k x h))
