-- Tests over the views of a list, one element after the other.
use Rattle.std.proofs.Common.{◌≡◌, ℕ, ◌+◌, ◌<◌, List, length, take, map, get_or, ◌∙◌, ap, arith, Bool, true, false, ◌||◌}
use Rattle.std.specs.List.{list_any}
use Rattle.std.proofs.lemmas.List.Folds.{list_any_at, list_any_more}
use Rattle.wcv_core.proofs.Rowing.{length-map, get_or-map}

module _ {A B : Type 0} (f : A → B) (p : B → Bool) (xs : List A) (i : ℕ) (x : A) (h : i < length xs) where
  pub any_found : p (f (get_or xs i x)) ≡ true → list_any p (map f xs) ≡ true
  any_found e = list_any_at p (map f xs) i (f x) (omega (arith, length-map f xs)) (ap p (get_or-map f xs i x) ∙ e)

  pub any_next : list_any p (take i (map f xs)) ≡ false → p (f (get_or xs i x)) ≡ false → list_any p (take (i + 1) (map f xs)) ≡ false
  any_next s e = list_any_more p (map f xs) i (f x) (omega (arith, length-map f xs)) ∙ λ j. s j || (ap p (get_or-map f xs i x) ∙ e) j
