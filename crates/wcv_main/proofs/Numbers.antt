-- Numbers in decimal: which one a text is, and what is read of a text with no sign and no zero in front.
use Rattle.std.proofs.Common.{◌≡◌, ◌⊎◌, ◌∙◌, ℕ, zero, suc, ◌+◌, ◌^◌, ◌<◌, ◌≤◌, inl, inr, List, [], ◌∷◌, length, get_or, Bool, true, false, Option, Some, None, Result, Ok, Err, refl, sym, ap, subst, arith, ⊎_elim}
use Rattle.std.specs.Prelude.{if◌then◌else◌}
use Rattle.std.specs.Fmt.{decimal}
use Rattle.std.specs.Result.{OkIff}
use Rattle.std.specs.Str.{bytes_eq}
use Rattle.std.specs.Str.Parse.{AllDigits, digits_value, ParsesUnsigned}
use Rattle.std.proofs.lemmas.Bool.{cases_lt}
use Rattle.std.proofs.lemmas.Fmt.{decimal_injective, decimal_is_IsNumeral, decimal_digit, first_decimal, parse-decimal, decimal-digits_value}
use Rattle.std.proofs.lemmas.Slice.Eq.{bytes_eq-Decides}
use Rattle.std.proofs.lemmas.Str.Parse.{IsNumeralModel, numerals_by_value, tells_digits, parse_plain, digit_at}
use Rattle.wcv_main.specs.Commands.{number_up_to, IsMarked}

-- the number is found by its digits
pub number_found : (most n : ℕ) (text : List ℕ) → most < 2 ^ 64 → n ≤ most → text ≡ decimal n → number_up_to most text ≡ Some n
unfolding number_up_to
number_found zero n text small fits is =
    let none : n ≡ 0 = omega arith in
    let same : bytes_eq text (decimal 0) ≡ true = (bytes_eq-Decides text (decimal 0)).1 (is ∙ ap decimal none) in
    ap (λ (b : Bool). if b then Some 0 else None) same ∙ ap Some (sym none)
number_found (suc most) n text small fits is = go (λ (less : n ≤ most). number_found most n text (omega arith) less is) (bytes_eq text (decimal (suc most))) refl
  where
    go : (n ≤ most → number_up_to most text ≡ Some n) → (b : Bool) → bytes_eq text (decimal (suc most)) ≡ b → (if b then Some (suc most) else number_up_to most text) ≡ Some n
    go below true e = ap Some (decimal_injective (suc most) n small (omega arith) (sym ((bytes_eq-Decides text (decimal (suc most))).0 e) ∙ is))
    go below false e = ⊎_elim
        (λ (less : n < suc most). below (omega arith))
        (λ (more : suc most ≤ n). absurd (differs (is ∙ ap decimal (omega (arith, more, fits)))))
        (cases_lt n (suc most))
      where
        differs : text ≡ decimal (suc most) → ⊥
        differs same = let t : bytes_eq text (decimal (suc most)) ≡ true = (bytes_eq-Decides text (decimal (suc most))).1 same in cc

-- a text that is none of them
pub number_absent : (most : ℕ) (text : List ℕ) → ((n : ℕ) → n ≤ most → text ≡ decimal n → ⊥) → number_up_to most text ≡ None
unfolding number_up_to
number_absent zero text other = go (bytes_eq text (decimal 0)) refl
  where
    go : (b : Bool) → bytes_eq text (decimal 0) ≡ b → ◌≡◌ {A = Option ℕ} (if b then Some 0 else None) None
    go true e = absurd (other 0 (omega arith) ((bytes_eq-Decides text (decimal 0)).0 e))
    go false e = refl
number_absent (suc most) text other = go (number_absent most text (λ n fits. other n (omega arith))) (bytes_eq text (decimal (suc most))) refl
  where
    go : number_up_to most text ≡ None → (b : Bool) → bytes_eq text (decimal (suc most)) ≡ b → (if b then Some (suc most) else number_up_to most text) ≡ None
    go below true e = absurd (other (suc most) (omega arith) ((bytes_eq-Decides text (decimal (suc most))).0 e))
    go below false e = below

-- no number is written with a mark
no_mark : (n : ℕ) → n < 2 ^ 64 → IsMarked (decimal n) → ⊥
no_mark n small (inl e) = let d = decimal_is_IsNumeral n small in omega (arith, e, digit_at (decimal n) 0 d.0.1 d.0.0)
no_mark n small (inr h) = ⊎_elim
    (λ (none : n < 1). omega (arith, h.1, ap length (decimal_digit n (omega arith))))
    (λ (some : 1 ≤ n). omega (arith, h.0, first_decimal n (omega arith) small))
    (cases_lt n 1)

pub marked_absent : (most : ℕ) (text : List ℕ) → most < 2 ^ 64 → IsMarked text → number_up_to most text ≡ None
marked_absent most text small mark = number_absent most text (λ n fits is. no_mark n (omega arith) (subst IsMarked is mark))

-- what was parsed of a text at 32 bits
module _ {E : Type 0} (most : ℕ) (text : List ℕ) (r : Result ℕ E) (small : most < 2 ^ 32) (read : ParsesUnsigned 32 10 text r) where
  pub failed_absent : (e : E) → r ≡ Err e → number_up_to most text ≡ None
  failed_absent e failed = number_absent most text (λ n fits is. let ok : r ≡ Ok n = parse-decimal 32 n text r (omega arith) (omega arith) is read in cc)

  own : IsNumeralModel (AllDigits 10) (digits_value 10)
  own = numerals_by_value (AllDigits 10) tells_digits

  digits_read : (n : ℕ) → ¬ (IsMarked text) → r ≡ Ok n → (text ≡ decimal n) × (n < 2 ^ 32)
  digits_read n plain ok =
      let P : Type 0 = AllDigits 10 text × (0 < length text) × (digits_value 10 text < 2 ^ 32) in
      let h : P × (n ≡ digits_value 10 text) = subst (λ (x : Result ℕ E). OkIff x P (digits_value 10 text)) ok (parse_plain own 32 text r read (λ e. plain (inl e))) in (
        sym (ap decimal h.1 ∙ decimal-digits_value own text h.0.0 h.0.1 (λ z. lead z h.0.1 (cases_lt (length text) 2)) (omega (arith, h.0.2))),
        omega (arith, h.1, h.0.2),
      )
    where
      lead : get_or text 0 0 ≡ 48 → 0 < length text → (length text < 2) ⊎ (2 ≤ length text) → length text ≡ 1
      lead z some (inl less) = omega arith
      lead z some (inr more) = absurd (plain (inr (z, more)))

  pub read_found : (n : ℕ) → ¬ (IsMarked text) → r ≡ Ok n → n ≤ most → number_up_to most text ≡ Some n
  read_found n plain ok fits = number_found most n text (omega arith) fits (digits_read n plain ok).0

  pub large_absent : (n : ℕ) → ¬ (IsMarked text) → r ≡ Ok n → most < n → number_up_to most text ≡ None
  large_absent n plain ok large =
      let d = digits_read n plain ok in
      number_absent most text (λ m less is. omega (arith, decimal_injective m n (omega arith) (omega (arith, d.1)) (sym is ∙ d.0)))
