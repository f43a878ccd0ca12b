-- Texts, lists and flags are read again.
use Rattle.std.proofs.Common.{◌≡◌, ℕ, true, false, cond, nat_lt, Some, None, Result, Ok, Err, List, [], ◌∷◌, ◌++◌, length, take, drop, refl, arith}
use Rattle.std.proofs.Math.Seq.{take-append_seam, drop-append_seam}
use Rattle.std.proofs.lemmas.List.{length-append}
use Rattle.std.proofs.lemmas.Bool.Decides.{nat_tests}
use Rattle.std.specs.Str.{is_utf8}
use Rattle.wcv_bytes.specs.declared.fault.Fault.{Fault}
use Rattle.wcv_bytes.specs.Reading.{◌>>=◌, fault, flag_at, zero_at, u32_at, list_at, vec_at, utf8_in, text_at}
use Rattle.wcv_bytes.specs.declared.fault.Why.TheVariants.{Short}
use Rattle.wcv_encode.specs.Bytes.{Bytes, ◌⧺◌, byte, flag, u32_bytes, sized, text, each, vec}
use Rattle.wcv_encode.specs.Laws.{Reads, IsReadAgain}
use Rattle.wcv_encode.proofs.Again.{behind, made, known}
use Rattle.wcv_encode.proofs.AgainNumbers.{u32_again}

pub flag_again : IsReadAgain flag_at flag
unfolding flag_at
flag_again true = known (1 ∷ []) flag_at true (λ rest. refl)
flag_again false = known (0 ∷ []) flag_at false (λ rest. refl)

-- ## Texts

fits_in : (t rest : List ℕ) → nat_lt (length (t ++ rest)) (length t) ≡ false
fits_in t rest = grind (arith, nat_tests, length-append t rest)

-- so much of what is left, where it is a text
abbrev of_length : ℕ × List ℕ → Result (List ℕ × List ℕ) Fault
of_length n = cond (nat_lt (length n.1) n.0) (Err (fault Short [])) (utf8_in (take n.0 n.1) (length n.1) >>= λ x. Ok (x, drop n.0 n.1))

taken : (t : List ℕ) → is_utf8 t ≡ true → (rest : List ℕ) → of_length (length t, t ++ rest) ≡ Ok (t, rest)
unfolding utf8_in
taken t u rest = rw (fits_in t rest, take-append_seam t rest, drop-append_seam t rest, u) refl

pub text_again : IsReadAgain text_at text
unfolding text_at text sized
text_again t b rest e =
    elim (is_utf8 t) as (λ v. is_utf8 t ≡ v → cond v (u32_bytes (length t) ⧺ Some t) None ≡ Some b → text_at (b ++ rest) ≡ Ok (t, rest)) [
      | true ↦ λ u w. behind u32_at of_length (u32_bytes (length t)) (Some t) (length t) t (u32_again (length t)) (known t (λ more. of_length (length t, more)) t (taken t u)) b rest w
      | false ↦ λ u w. absurd (cc)
    ] refl e

-- ## Lists

pub list_again : {X : Type 0} (r : List ℕ → Result (X × List ℕ) Fault) (w : X → Bytes) → IsReadAgain r w → (xs : List X) → Reads (list_at r (length xs)) (each w xs) xs
unfolding list_at each
list_again r w again [] = known [] (λ bytes. Ok ([], bytes)) [] (λ rest. refl)
list_again r w again (x ∷ xs) =
    behind r (λ first. list_at r (length xs) first.1 >>= λ others. Ok (first.0 ∷ others.0, others.1)) (w x) (each w xs) x (x ∷ xs) (again x) (made (list_at r (length xs)) (λ ys. x ∷ ys) (each w xs) xs (list_again r w again xs))

pub vec_again : {X : Type 0} (r : List ℕ → Result (X × List ℕ) Fault) (w : X → Bytes) → IsReadAgain r w → IsReadAgain (vec_at r) (vec w)
unfolding vec_at vec
vec_again r w again xs =
    behind u32_at (λ n. list_at r n.0 n.1) (u32_bytes (length xs)) (each w xs) (length xs) xs (u32_again (length xs)) (list_again r w again xs)

pub zero_again : {Z : Type 0} (z : Z) → Reads (λ bytes. zero_at bytes >>= λ rest. Ok (z, rest)) (byte 0) z
unfolding zero_at
zero_again z = known (0 ∷ []) (λ bytes. zero_at bytes >>= λ rest. Ok (z, rest)) z (λ rest. refl)
