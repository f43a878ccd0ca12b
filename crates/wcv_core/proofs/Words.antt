-- The words of a text, found from the start.
use Rattle.std.proofs.Common.{◌≡◌, ◌≢◌, ℕ, zero, suc, ◌+◌, ◌<◌, ◌≤◌, List, [], ◌∷◌, length, get_or, take, drop, Bool, true, false, cond, eqb, refl, sym, ap, ◌∙◌, subst, arith, ◌&&◌, ◌-◌, length-drop}
use Rattle.std.specs.List.{list_all}
use Rattle.std.proofs.lemmas.List.{drop-drop, take_all}
use Rattle.std.proofs.lemmas.Bool.Decides.{nat_tests}
use Rattle.wcv_core.specs.Dashes.{IsPlain, IsFirstDash}
use Rattle.wcv_core.specs.Label.{words, with_first, is_word}

not_dash : (b : ℕ) → b ≢ 45 → eqb b 45 ≡ false
not_dash b h = grind (arith, nat_tests)

is_dash : (b : ℕ) → b ≡ 45 → eqb b 45 ≡ true
is_dash b h = grind (arith, nat_tests)

words-plain_head : (b : ℕ) (bs : List ℕ) → b ≢ 45 → words (b ∷ bs) ≡ with_first b (words bs)
words-plain_head b bs h = ap (λ (t : Bool). cond t ([] ∷ words bs) (with_first b (words bs))) (not_dash b h)

words-dash : (b : ℕ) (bs : List ℕ) → b ≡ 45 → words (b ∷ bs) ≡ [] ∷ words bs
words-dash b bs h = ap (λ (t : Bool). cond t ([] ∷ words bs) (with_first b (words bs))) (is_dash b h)

words_at : (bs : List ℕ) (i : ℕ) → i < length bs → get_or bs i 0 ≡ 45 → IsPlain bs i → words bs ≡ take i bs ∷ words (drop (suc i) bs)
words_at [] i l d p = Prim.absurd (omega arith)
words_at (b ∷ bs) zero l d p = words-dash b bs d
words_at (b ∷ bs) (suc i) l d p =
    words-plain_head b bs (p 0 (omega arith)) ∙ ap (with_first b) (words_at bs i (omega arith) d (λ k h. p (suc k) (omega (arith, h))))

-- up to the first dash one word, and then those of the rest
pub words-first_dash : (bs : List ℕ) (i : ℕ) → IsFirstDash bs i → words bs ≡ take i bs ∷ words (drop (i + 1) bs)
words-first_dash bs i f =
    let e : suc i ≡ i + 1 = omega arith in
    words_at bs i f.within f.dash f.before ∙ ap (λ (j : ℕ). take i bs ∷ words (drop j bs)) e

-- where there is no dash the text is one word
pub words-plain : (bs : List ℕ) → IsPlain bs (length bs) → words bs ≡ bs ∷ []
words-plain [] p = refl
words-plain (b ∷ bs) p =
    words-plain_head b bs (p 0 (omega arith)) ∙ ap (with_first b) (words-plain bs (λ k h. p (suc k) (omega (arith, h))))

and_true : (b : Bool) → (b && true) ≡ b
and_true true = refl
and_true false = refl

-- what stands behind the start, as a slice has it
slice-rest : (bs : List ℕ) (start : ℕ) → take (length bs - start) (drop start bs) ≡ drop start bs
slice-rest bs start = take_all (length bs - start) (drop start bs) (omega (arith, length-drop start bs))

-- behind the start, up to the first dash there one word, and then those of the rest
pub words_from : (bs : List ℕ) (start width : ℕ) → IsFirstDash (take (length bs - start) (drop start bs)) width
    → list_all is_word (words (drop start bs)) ≡ (is_word (take (start + width - start) (drop start bs)) && list_all is_word (words (drop (start + (width + 1)) bs)))
words_from bs start width f =
    let g : IsFirstDash (drop start bs) width = subst (λ (r : List ℕ). IsFirstDash r width) (slice-rest bs start) f in
    let e : width ≡ start + width - start = omega arith in
    ap (list_all is_word) (words-first_dash (drop start bs) width g) ∙
    ap (λ (r : List ℕ). is_word (take width (drop start bs)) && list_all is_word (words r)) (drop-drop (width + 1) start bs) ∙
    ap (λ (w : ℕ). is_word (take w (drop start bs)) && list_all is_word (words (drop (start + (width + 1)) bs))) e

-- behind the start one word, where there is no dash
pub words_rest : (bs : List ℕ) (start : ℕ) → IsPlain (take (length bs - start) (drop start bs)) (length (take (length bs - start) (drop start bs)))
    → list_all is_word (words (drop start bs)) ≡ is_word (take (length bs - start) (drop start bs))
words_rest bs start p =
    ap (λ (r : List ℕ). list_all is_word (words r)) (sym (slice-rest bs start)) ∙
    ap (list_all is_word) (words-plain (take (length bs - start) (drop start bs)) p) ∙ and_true (is_word (take (length bs - start) (drop start bs)))

pub dash_within : (bs : List ℕ) (start width : ℕ) → IsFirstDash (take (length bs - start) (drop start bs)) width → start ≤ length bs → start + (width + 1) ≤ length bs
dash_within bs start width f h =
    let w : width < length (drop start bs) = subst (λ (r : List ℕ). width < length r) (slice-rest bs start) f.within in
    omega (arith, w, length-drop start bs)
