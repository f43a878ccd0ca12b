-- Lists of core types with spaces between them.
use Rattle.std.proofs.Common.{◌≡◌, ℕ, suc, ◌+◌, ◌<◌, ◌≤◌, List, ◌++◌, length, map, get_or, drop, drop-cons, add-one, codes, sym, ◌∙◌, ap, append_assoc, append-nil}
use Rattle.std.proofs.Math.ListN.{drop_of_length-le}
use Rattle.wcv_types.specs.CoreText.{spaced}
use Rattle.wcv_types.specs.Tree.{Text}
use Rattle.wcv_text.specs.Mentions.{separator}

-- one more
pub next_spaced : {A : Type 0} (f : A → Text) (text one next all : Text) (i : ℕ) (x : A) (xs : List A) → i < length xs → one ≡ text ++ separator (codes " ") i → next ≡ one ++ f (get_or xs i x) →
    text ++ spaced (separator (codes " ") i) (map f (drop i xs)) ≡ all → next ++ spaced (separator (codes " ") (i + 1)) (map f (drop (i + 1) xs)) ≡ all
next_spaced {A} f text one next all i x xs within p q h =
    let rest : Text = spaced (codes " ") (map f (drop (suc i) xs)) in
    ap (λ (j : ℕ). next ++ spaced (separator (codes " ") j) (map f (drop j xs))) (add-one i) ∙
    ap (λ (y : Text). y ++ rest) (q ∙ ap (λ (y : Text). y ++ f (get_or xs i x)) p) ∙ regroup text (separator (codes " ") i) (f (get_or xs i x)) rest ∙
    sym (ap (λ (ys : List A). text ++ spaced (separator (codes " ") i) (map f ys)) (drop-cons xs i x within)) ∙ h
  where
    regroup : (a b d e : Text) → ((a ++ b) ++ d) ++ e ≡ a ++ ((b ++ d) ++ e)
    regroup a b d e = simp append_assoc

-- all
pub all_spaced : {A : Type 0} (f : A → Text) (text all before : Text) (i : ℕ) (xs : List A) → length xs ≤ i → text ++ spaced before (map f (drop i xs)) ≡ all → text ≡ all
all_spaced {A} f text all before i xs past h = sym (append-nil text) ∙ sym (ap (λ (ys : List A). text ++ spaced before (map f ys)) (drop_of_length-le xs past)) ∙ h
