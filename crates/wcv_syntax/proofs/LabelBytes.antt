-- Which bytes stand in labels.
use Rattle.std.proofs.Common.{◌≡◌, ℕ, List, [], ◌∷◌, Bool, true, false, cond, eqb, ◌||◌, ◌&&◌, refl, sym, ap, ◌∙◌, inl, inr, eqb-true}
use Rattle.std.specs.List.{list_all}
use Rattle.std.specs.Char.{is_ascii_alphabetic}
use Rattle.std.proofs.lemmas.Bool.{and_parts, and_from, or_cases, or_left, or_right}
use Rattle.wcv_core.specs.Label.{words, with_first, is_word, is_lower_or_digit, is_upper_or_digit, is_label, begins_with_letter}
use Rattle.wcv_syntax.proofs.Cuts.{lacks}

-- a letter or a digit
abbrev pub in_word : ℕ → Bool
in_word b = is_lower_or_digit b || is_upper_or_digit b

-- one of these, or a dash
abbrev pub in_label : ℕ → Bool
in_label b = eqb b 45 || in_word b

each : (p q : ℕ → Bool) → ((b : ℕ) → p b ≡ true → q b ≡ true) → (bs : List ℕ) → list_all p bs ≡ true → list_all q bs ≡ true
each p q f [] h = refl
each p q f (b ∷ bs) h =
    let k = and_parts (p b) (list_all p bs) h in
    and_from (q b) (list_all q bs) (f b k.0) (each p q f bs k.1)

word_bytes : (w : List ℕ) → is_word w ≡ true → list_all in_word w ≡ true
word_bytes [] h = cc
word_bytes (b ∷ bs) h = elim (or_cases (list_all is_lower_or_digit (b ∷ bs)) (list_all is_upper_or_digit (b ∷ bs)) h) [
  | inl k ↦ each is_lower_or_digit in_word (λ c e. or_left (is_lower_or_digit c) (is_upper_or_digit c) e) (b ∷ bs) k
  | inr k ↦ each is_upper_or_digit in_word (λ c e. or_right (is_lower_or_digit c) (is_upper_or_digit c) e) (b ∷ bs) k
]

all_words : (ws : List (List ℕ)) → list_all is_word ws ≡ true → list_all (list_all in_word) ws ≡ true
all_words [] h = refl
all_words (w ∷ ws) h =
    let k = and_parts (is_word w) (list_all is_word ws) h in
    and_from (list_all in_word w) (list_all (list_all in_word) ws) (word_bytes w k.0) (all_words ws k.1)

-- the bytes of all words
with_bytes : (b : ℕ) (ws : List (List ℕ)) → list_all (list_all in_word) (with_first b ws) ≡ true → (in_word b ≡ true) × (list_all (list_all in_word) ws ≡ true)
with_bytes b [] h = ((and_parts (in_word b) true (and_parts (list_all in_word (b ∷ [])) true h).0).0, refl)
with_bytes b (w ∷ ws) h =
    let k = and_parts (list_all in_word (b ∷ w)) (list_all (list_all in_word) ws) h in
    let j = and_parts (in_word b) (list_all in_word w) k.0 in
    (j.0, and_from (list_all in_word w) (list_all (list_all in_word) ws) j.1 k.1)

text_bytes : (t : List ℕ) → list_all (list_all in_word) (words t) ≡ true → list_all in_label t ≡ true
text_bytes [] h = refl
text_bytes (b ∷ bs) h = go (eqb b 45) refl h (text_bytes bs)
  where
    go : (x : Bool) → eqb b 45 ≡ x → list_all (list_all in_word) (cond x ([] ∷ words bs) (with_first b (words bs))) ≡ true → (list_all (list_all in_word) (words bs) ≡ true → list_all in_label bs ≡ true) → ((eqb b 45 || in_word b) && list_all in_label bs) ≡ true
    go true e k ih = and_from (eqb b 45 || in_word b) (list_all in_label bs) (or_left (eqb b 45) (in_word b) e) (ih k)
    go false e k ih =
        let j = with_bytes b (words bs) k in
        and_from (eqb b 45 || in_word b) (list_all in_label bs) (or_right (eqb b 45) (in_word b) j.0) (ih j.1)

pub label_bytes : (l : List ℕ) → is_label l ≡ true → list_all in_label l ≡ true
label_bytes l h = text_bytes l (all_words (words l) (and_parts (begins_with_letter l) (list_all is_word (words l)) h).1)

-- another byte stands in no label
other : (b : ℕ) → in_label b ≡ false → (t : List ℕ) → list_all in_label t ≡ true → lacks b t ≡ false
other b o [] h = refl
other b o (c ∷ t) h = go (eqb c b) refl (and_parts (in_label c) (list_all in_label t) h) (other b o t)
  where
    go : (x : Bool) → eqb c b ≡ x → (in_label c ≡ true) × (list_all in_label t ≡ true) → (list_all in_label t ≡ true → lacks b t ≡ false) → (eqb c b || lacks b t) ≡ false
    go true e k ih = let f : true ≡ false = sym k.0 ∙ ap in_label (eqb-true c b e) ∙ o in cc f
    go false e k ih = ap (λ (x : Bool). x || lacks b t) e ∙ ih k.1

pub label-lacks : (b : ℕ) → in_label b ≡ false → (l : List ℕ) → is_label l ≡ true → lacks b l ≡ false
label-lacks b o l h = other b o l (label_bytes l h)

-- a label has a first byte, which is a letter
pub label-first : (l : List ℕ) → is_label l ≡ true → (b : ℕ) × (bs : List ℕ) × (l ≡ b ∷ bs) × (is_ascii_alphabetic b ≡ true)
label-first [] h = cc
label-first (b ∷ bs) h = (b, bs, refl, (and_parts (is_ascii_alphabetic b) (list_all is_word (words (b ∷ bs))) h).0)
