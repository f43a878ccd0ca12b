-- A label stays one in lower case.
use Rattle.std.proofs.Common.{◌≡◌, ℕ, List, [], ◌∷◌, Bool, true, false, map, cond, eqb, refl, ap, ◌∙◌, inl, inr, arith}
use Rattle.std.specs.List.{list_all}
use Rattle.std.specs.Char.{is_ascii_alphabetic, to_ascii_lowercase}
use Rattle.std.proofs.lemmas.Bool.{and_parts, and_from, or_cases, or_left}
use Rattle.std.proofs.lemmas.Bool.Decides.{nat_tests}
use Rattle.wcv_core.specs.Label.{words, with_first, is_word, is_lower_or_digit, is_upper_or_digit, is_label, begins_with_letter, lower_case}

dash : (b : ℕ) → eqb (to_ascii_lowercase b) 45 ≡ eqb b 45
dash b = grind (arith, nat_tests)

stays : (b : ℕ) → is_lower_or_digit b ≡ true → is_lower_or_digit (to_ascii_lowercase b) ≡ true
stays b h = grind (arith, nat_tests)

lowered : (b : ℕ) → is_upper_or_digit b ≡ true → is_lower_or_digit (to_ascii_lowercase b) ≡ true
lowered b h = grind (arith, nat_tests)

letter : (b : ℕ) → is_ascii_alphabetic b ≡ true → is_ascii_alphabetic (to_ascii_lowercase b) ≡ true
letter b h = grind (arith, nat_tests)

each : (p : ℕ → Bool) → ((b : ℕ) → p b ≡ true → is_lower_or_digit (to_ascii_lowercase b) ≡ true) → (bs : List ℕ) → list_all p bs ≡ true → list_all is_lower_or_digit (lower_case bs) ≡ true
each p f [] h = refl
each p f (b ∷ bs) h =
    let k = and_parts (p b) (list_all p bs) h in
    and_from (is_lower_or_digit (to_ascii_lowercase b)) (list_all is_lower_or_digit (lower_case bs)) (f b k.0) (each p f bs k.1)

word : (w : List ℕ) → is_word w ≡ true → is_word (lower_case w) ≡ true
word [] h = cc
word (b ∷ bs) h =
    let l : List ℕ = lower_case (b ∷ bs) in
    elim (or_cases (list_all is_lower_or_digit (b ∷ bs)) (list_all is_upper_or_digit (b ∷ bs)) h) [
      | inl k ↦ or_left (list_all is_lower_or_digit l) (list_all is_upper_or_digit l) (each is_lower_or_digit stays (b ∷ bs) k)
      | inr k ↦ or_left (list_all is_lower_or_digit l) (list_all is_upper_or_digit l) (each is_upper_or_digit lowered (b ∷ bs) k)
    ]

all_words : (ws : List (List ℕ)) → list_all is_word ws ≡ true → list_all is_word (map lower_case ws) ≡ true
all_words [] h = refl
all_words (w ∷ ws) h =
    let k = and_parts (is_word w) (list_all is_word ws) h in
    and_from (is_word (lower_case w)) (list_all is_word (map lower_case ws)) (word w k.0) (all_words ws k.1)

first_lower : (b : ℕ) (ws : List (List ℕ)) → with_first (to_ascii_lowercase b) (map lower_case ws) ≡ map lower_case (with_first b ws)
first_lower b [] = refl
first_lower b (w ∷ ws) = refl

words_lower : (t : List ℕ) → words (lower_case t) ≡ map lower_case (words t)
words_lower [] = refl
words_lower (b ∷ bs) =
    ap (λ (x : Bool). cond x ([] ∷ words (lower_case bs)) (with_first (to_ascii_lowercase b) (words (lower_case bs)))) (dash b) ∙
    ap (λ (ws : List (List ℕ)). cond (eqb b 45) ([] ∷ ws) (with_first (to_ascii_lowercase b) ws)) (words_lower bs) ∙ go (eqb b 45)
  where
    go : (x : Bool) → cond x ([] ∷ map lower_case (words bs)) (with_first (to_ascii_lowercase b) (map lower_case (words bs))) ≡ map lower_case (cond x ([] ∷ words bs) (with_first b (words bs)))
    go true = refl
    go false = first_lower b (words bs)

first : (l : List ℕ) → begins_with_letter l ≡ true → begins_with_letter (lower_case l) ≡ true
first [] h = h
first (b ∷ bs) h = letter b h

pub lower_label : (l : List ℕ) → is_label l ≡ true → is_label (lower_case l) ≡ true
lower_label l h =
    let k = and_parts (begins_with_letter l) (list_all is_word (words l)) h in
    and_from (begins_with_letter (lower_case l)) (list_all is_word (words (lower_case l))) (first l k.0)
    (ap (list_all is_word) (words_lower l) ∙ all_words (words l) k.1)
