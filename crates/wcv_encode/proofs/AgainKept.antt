-- How much may still be kept once the entries of a section were counted.
use Rattle.std.proofs.Common.{◌≡◌, ℕ, ◌+◌, ◌-◌, ◌*◌, ◌≤◌, Bool, true, false, cond, nat_lt, Some, Ok, List, length, refl, arith}
use Rattle.wcv_bytes.specs.Reading.{u32_at}
use Rattle.wcv_bytes.specs.Sections.{more_for, counted_at}
use Rattle.wcv_encode.specs.Bytes.{Bytes, u32_bytes, each, vec}
use Rattle.wcv_encode.proofs.Again.{parted}
use Rattle.wcv_encode.proofs.AgainNumbers.{u32_again, below, not_below}

lesser : (t : Bool) (n k : ℕ) → nat_lt k n ≡ t → 3 * cond t k n ≤ 3 * n
lesser true n k e = omega (arith, below k n e)
lesser false n k e = omega arith

-- entries count for no more than four bytes each, and the bytes behind their count once more where that is asked for
more_at_most : (again : Bool) (n k : ℕ) → more_for again n k ≤ 3 * n + cond again k 0
more_at_most again n k = omega (arith, lesser (nat_lt k n) n k refl)

pub counted_again : (again : Bool) (end room n : ℕ) (c rest : List ℕ) → u32_at c ≡ Ok (n, rest) → 3 * n + cond again (length rest) 0 ≤ room → (left : ℕ) × (counted_at again end room c ≡ Ok left) × (room ≤ left + (3 * n + cond again (length rest) 0))
unfolding counted_at
counted_again again end room n c rest read h =
    let more = more_at_most again n (length rest) in (
      room - more_for again n (length rest),
      rw (read, not_below room (more_for again n (length rest)) (omega (arith, h, more))) refl,
      omega (arith, h, more),
    )

-- a list begins with its count
pub count_again : {X : Type 0} (w : X → Bytes) (xs : List X) (c : List ℕ) → vec w xs ≡ Some c → (rest : List ℕ) × (u32_at c ≡ Ok (length xs, rest))
unfolding vec
count_again w xs c e =
    parted (λ z. (rest : List ℕ) × (u32_at z ≡ Ok (length xs, rest))) (u32_bytes (length xs)) (each w xs) (λ x y size others. (y, u32_again (length xs) x y size)) c e
