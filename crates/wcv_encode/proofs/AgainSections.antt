-- The contents of a section are found again, whatever follows it.
use Rattle.std.proofs.Common.{◌≡◌, ℕ, ◌+◌, ◌-◌, ◌≤◌, Bool, true, false, cond, nat_lt, Some, None, Ok, List, ◌∷◌, ◌++◌, length, refl, sym, ap, ◌∙◌, subst, append_assoc, arith}
use Rattle.std.proofs.Math.Seq.{take-append_seam, drop-append_seam}
use Rattle.std.proofs.lemmas.List.{length-append}
use Rattle.wcv_bytes.specs.Sections.{contents_at}
use Rattle.wcv_encode.specs.Bytes.{Bytes, ◌⧺◌, byte, u32_bytes, sized, section}
use Rattle.wcv_encode.proofs.Again.{some_of, begun_by, parted}
use Rattle.wcv_encode.proofs.AgainNumbers.{u32_again, not_below}

-- what holds of all sizes with so many bytes behind them holds of what is written of both
sized_of : (P : List ℕ → Type 0) (contents : Bytes) → ((l c : List ℕ) → u32_bytes (length c) ≡ Some l → contents ≡ Some c → P (l ++ c)) → (b : List ℕ) → sized contents ≡ Some b → P b
unfolding sized
sized_of P None each b e = absurd (cc)
sized_of P (Some c) each b e = parted P (u32_bytes (length c)) (Some c) (λ l d size same. each l d (ap (λ x. u32_bytes (length x)) (sym (some_of c d same)) ∙ size) same) b e

-- what holds of all ids, sizes, so many bytes and what follows holds of what is written of a section and more
pub opened : (P : List ℕ → Type 0) (id : ℕ) (contents more : Bytes) → ((l c y : List ℕ) → u32_bytes (length c) ≡ Some l → contents ≡ Some c → more ≡ Some y → P (id ∷ l ++ (c ++ y))) → (b : List ℕ) → section id contents ⧺ more ≡ Some b → P b
unfolding section
opened P id contents more each b e =
    parted P (byte id ⧺ sized contents) more (λ x y first second.
    begun_by id (λ z. P (z ++ y)) (sized contents) (λ d first.
    sized_of (λ z. P (id ∷ z ++ y)) contents (λ l c size same. subst P (ap (λ z. id ∷ z) (sym (append_assoc l c y))) (each l c y size same second)) d first) x first) b e

-- what may still be kept once a section was found
abbrev pub counted : Bool → List ℕ → List ℕ → ℕ
counted counts l c = 1 + length l + cond counts (length c) 0

pub counted_at_most : (counts : Bool) (l c : List ℕ) → counted counts l c ≤ 1 + length l + length c
counted_at_most true l c = omega arith
counted_at_most false l c = omega arith

-- the contents, what follows, and how much may still be kept
abbrev pub Found : Bool → (end room : ℕ) (l c y : List ℕ) → Type 0
Found counts end room l c y = (left : ℕ) × (contents_at counts end room (l ++ (c ++ y)) ≡ Ok (c, y, left)) × (left + counted counts l c ≡ room)

fits : (c y : List ℕ) → nat_lt (length (c ++ y)) (length c) ≡ false
fits c y = not_below (length (c ++ y)) (length c) (omega (arith, length-append c y))

-- how many bytes stand before what is left
taken : (counts : Bool) (l c y : List ℕ) → 1 + (length (l ++ (c ++ y)) - length (cond counts y (c ++ y))) ≡ counted counts l c
taken true l c y = omega (arith, length-append l (c ++ y), length-append c y)
taken false l c y = omega (arith, length-append l (c ++ y))

pub contents_again : (counts : Bool) (end room : ℕ) (l c y : List ℕ) → u32_bytes (length c) ≡ Some l → counted counts l c ≤ room → Found counts end room l c y
unfolding contents_at
contents_again counts end room l c y size h = (
  room - counted counts l c,
  rw (u32_again (length c) l (c ++ y) size, fits c y, take-append_seam c y, drop-append_seam c y, taken counts l c y, not_below room (counted counts l c) h) refl,
  omega (arith, h),
)
