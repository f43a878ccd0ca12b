-- Numbers of one byte.
use Rattle.std.proofs.Common.{◌≡◌, ℕ, ◌^◌, ◌-◌, ◌<◌, ◌≤◌, List, [], ◌∷◌, length, take, drop, slice_index_or, Ok, arith}
use Rattle.std.proofs.lemmas.Bool.Decides.{nat_tests}
use Rattle.std.proofs.lemmas.List.{take_rest}
use Rattle.wcv_bytes.specs.Reading.{leb_at, index_within, u32_at, index_at}

leb_of_one : (most b : ℕ) (rest : List ℕ) → b < 128 → b ≤ most → leb_at most (b ∷ rest) ≡ Ok (b, rest)
unfolding leb_at
leb_of_one most b rest h l = grind (arith, nat_tests)

index_of_one : (most b : ℕ) (rest : List ℕ) → b < 64 → b ≤ most → index_within most (b ∷ rest) ≡ Ok (b, rest)
unfolding index_within
index_of_one most b rest h l = grind (arith, nat_tests)

pub short_u32 : (bytes : List ℕ) → 1 ≤ length bytes → slice_index_or bytes 0 0 < 128 → u32_at bytes ≡ Ok (slice_index_or bytes 0 0, take (length bytes - 1) (drop 1 bytes))
short_u32 [] l h = absurd (omega arith)
short_u32 (b ∷ rest) l h = rw (take_rest (b ∷ rest) 1) (leb_of_one (2 ^ 32 - 1) b rest h (omega arith))

pub short_index : (bytes : List ℕ) → 1 ≤ length bytes → slice_index_or bytes 0 0 < 64 → index_at bytes ≡ Ok (slice_index_or bytes 0 0, take (length bytes - 1) (drop 1 bytes))
short_index [] l h = absurd (omega arith)
short_index (b ∷ rest) l h = rw (take_rest (b ∷ rest) 1) (index_of_one (2 ^ 32 - 1) b rest h (omega arith))
