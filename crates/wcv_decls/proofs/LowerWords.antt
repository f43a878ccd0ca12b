-- Bytes that go on as lower-case words do are words.
use Rattle.std.proofs.Common.{◌≡◌, ℕ, ◌<◌, length, arith, List, [], ◌∷◌, Bool, true, false, cond, eqb, ◌&&◌, ◌||◌, refl, ap, sym, ◌∙◌}
use Rattle.std.specs.Prelude.{not}
use Rattle.std.specs.List.{list_all}
use Rattle.std.proofs.lemmas.Bool.{false≢true, eqb-true}
use Rattle.wcv_core.specs.Label.{is_lower_or_digit, is_upper_or_digit, is_word, words, with_first}
use Rattle.wcv_core.proofs.Names.{and_left, and_right}
use Rattle.wcv_decls.specs.LowerWords.{may_follow, goes_on}

pub both : (a b : Bool) → a ≡ true → b ≡ true → (a && b) ≡ true
both a b h k = ap (λ (t : Bool). t && b) h ∙ k

abbrev is_lower_word : List ℕ → Bool
is_lower_word [] = false
is_lower_word (b ∷ bs) = list_all is_lower_or_digit (b ∷ bs)

-- the rest of a word, and then words
abbrev are_rest : List (List ℕ) → Bool
are_rest [] = false
are_rest (w ∷ ws) = list_all is_lower_or_digit w && list_all is_lower_word ws

lower_are_words : (ws : List (List ℕ)) → list_all is_lower_word ws ≡ true → list_all is_word ws ≡ true
lower_are_words [] h = refl
lower_are_words ([] ∷ ws) h = absurd (false≢true h)
lower_are_words ((b ∷ bs) ∷ ws) h =
    let first : list_all is_lower_or_digit (b ∷ bs) ≡ true = and_left _ _ h in
    both _ _ (ap (λ (t : Bool). t || list_all is_upper_or_digit (b ∷ bs)) first) (lower_are_words ws (and_right (list_all is_lower_or_digit (b ∷ bs)) _ h))

first_lower : (b : ℕ) (ws : List (List ℕ)) → is_lower_or_digit b ≡ true → are_rest ws ≡ true → list_all is_lower_word (with_first b ws) ≡ true
first_lower b [] l h = absurd (false≢true h)
first_lower b (w ∷ ws) l h = both _ _ (both _ _ l (and_left (list_all is_lower_or_digit w) _ h)) (and_right (list_all is_lower_or_digit w) _ h)

first_rest : (b : ℕ) (ws : List (List ℕ)) → list_all is_lower_word (with_first b ws) ≡ true → are_rest (with_first b ws) ≡ true
first_rest b [] h = h
first_rest b (w ∷ ws) h = h

-- behind a dash stand words, and behind another byte the rest of one
abbrev fits : Bool → List (List ℕ) → Bool
fits d ws = cond d (list_all is_lower_word ws) (are_rest ws)

dash_is_no_letter : (b : ℕ) → eqb b 45 ≡ true → is_lower_or_digit b ≡ false
dash_is_no_letter b h = ap is_lower_or_digit (eqb-true b 45 h)

one_more : (b : ℕ) (d e l : Bool) (ws : List (List ℕ)) → is_lower_or_digit b ≡ l → (e ≡ true → l ≡ false) → (l || (e && not d)) ≡ true → fits e ws ≡ true → fits d (cond e ([] ∷ ws) (with_first b ws)) ≡ true
one_more b true true true ws i n m f = absurd (false≢true (sym (n refl)))
one_more b false true l ws i n m f = f
one_more b true true false ws i n m f = absurd (false≢true m)
one_more b true false true ws i n m f = first_lower b ws i f
one_more b false false true ws i n m f = first_rest b ws (first_lower b ws i f)
one_more b d false false ws i n m f = absurd (false≢true m)

words_fit : (p : ℕ) (bs : List ℕ) → goes_on p bs ≡ true → fits (eqb p 45) (words bs) ≡ true
words_fit p [] h = go (eqb p 45) h
  where
    go : (d : Bool) → not d ≡ true → fits d ([] ∷ []) ≡ true
    go true h = absurd (false≢true h)
    go false h = refl
words_fit p (b ∷ bs) h =
    one_more b (eqb p 45) (eqb b 45) (is_lower_or_digit b) (words bs) refl (dash_is_no_letter b) (and_left (may_follow p b) _ h) (words_fit b bs (and_right (may_follow p b) _ h))

pub are_words : (bs : List ℕ) → goes_on 45 bs ≡ true → list_all is_word (words bs) ≡ true
are_words bs h = lower_are_words (words bs) (words_fit 45 bs h)

-- no byte is left, and the last is no dash
pub none_left : (p : ℕ) (bs : List ℕ) → length bs < 1 → not (eqb p 45) ≡ true → goes_on p bs ≡ true
none_left p [] l h = h
none_left p (b ∷ bs) l h = absurd (omega arith)
