-- Lists of parts, one beside the other.
use Rattle.std.proofs.Common.{◌≡◌, ℕ, ◌+◌, ◌<◌, ◌≤◌, List, [], ◌∷◌, length, refl, ap, ◌∙◌, drop, drop-cons, get_or, add-one, false, not, ◌||◌}
use Rattle.std.proofs.Math.ListN.{drop_of_length-le}
use Rattle.wcv_types.specs.declared.ids.Part.{Part}
use Rattle.wcv_remap.specs.Map.{same_part}
use Rattle.wcv_remap.specs.Remap.{any_other}

pub next_pair : (xs ys : List Part) (k : ℕ) (a b : Part) → k < length xs → k < length ys → a ≡ get_or xs k a → b ≡ get_or ys k b →
    any_other (drop k xs) (drop k ys) ≡ not (same_part a b) || any_other (drop (k + 1) xs) (drop (k + 1) ys)
next_pair xs ys k a b h i e f = ap (λ (x : List Part). any_other x (drop k ys)) (first xs a h e) ∙ ap (λ (x : List Part). any_other (a ∷ drop (k + 1) xs) x) (first ys b i f)
  where
    first : (cs : List Part) (c : Part) → k < length cs → c ≡ get_or cs k c → drop k cs ≡ c ∷ drop (k + 1) cs
    first cs c h e = rw (add-one, drop-cons cs k c, ← e) refl

pub no_pair : (xs ys : List Part) (k : ℕ) → length xs ≤ k → any_other (drop k xs) (drop k ys) ≡ false
no_pair xs ys k h = ap (λ (x : List Part). any_other x (drop k ys)) (drop_of_length-le xs h)

other-nil : (xs : List Part) → any_other xs [] ≡ false
other-nil [] = refl
other-nil (a ∷ xs) = refl

pub no_second : (xs ys : List Part) (k : ℕ) → length ys ≤ k → any_other (drop k xs) (drop k ys) ≡ false
no_second xs ys k h = ap (λ (x : List Part). any_other (drop k xs) x) (drop_of_length-le ys h) ∙ other-nil (drop k xs)
