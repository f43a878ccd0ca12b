-- A list, cut at one of its positions.
use Rattle.std.proofs.Common.{◌≡◌, ℕ, zero, suc, ◌+◌, List, [], ◌∷◌, ◌++◌, take, drop, Some, ap, ◌∙◌, add-one}
use Rattle.std.specs.Prelude.{slice_get}
use Rattle.wcv_types.proofs.Lists.{take-next}

module _ {X : Type 0} where
  pub take-at : (xs : List X) (i : ℕ) (x : X) → slice_get xs i ≡ Some x → take (i + 1) xs ≡ take i xs ++ x ∷ []
  take-at xs i x e = ap (λ (j : ℕ). take j xs) (add-one i) ∙ take-next xs i x e

  pub split-at : (xs : List X) (i : ℕ) (x : X) → slice_get xs i ≡ Some x → take i xs ++ x ∷ drop (suc i) xs ≡ xs
  split-at [] i x e = absurd (cc)
  split-at (y ∷ xs) zero x e = cc
  split-at (y ∷ xs) (suc i) x e = ap (λ (ys : List X). y ∷ ys) (split-at xs i x e)
