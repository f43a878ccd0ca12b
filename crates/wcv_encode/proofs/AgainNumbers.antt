-- Numbers are read again.
use Rattle.std.proofs.Common.{◌≡◌, ℕ, zero, suc, ◌+◌, ◌-◌, ◌*◌, ◌/◌, ◌%◌, ◌^◌, ◌<◌, ◌≤◌, Bool, true, false, cond, nat_lt, Some, None, Ok, List, [], ◌∷◌, ◌++◌, refl, sym, ap, ◌∙◌, arith}
use Rattle.std.proofs.Math.Nat.{pow-succ'}
use Rattle.std.proofs.lemmas.Bool.Decides.{nat_tests}
use Rattle.wcv_bytes.specs.Reading.{leb_at, index_within, u32_at, u64_at, index_at}
use Rattle.wcv_encode.specs.Bytes.{leb128, u32_bytes, u64_bytes, s33_bytes}
use Rattle.wcv_encode.specs.Laws.{Reads}

leb_one : (most n : ℕ) (rest : List ℕ) → n < 128 → n ≤ most → leb_at most (n ∷ rest) ≡ Ok (n, rest)
unfolding leb_at
leb_one most n rest h l = grind (arith, nat_tests)

leb_more : (most b high : ℕ) (bytes rest : List ℕ) → 128 ≤ b → 128 ≤ most → b - 128 + 128 * high ≤ most → leb_at (most / 128) bytes ≡ Ok (high, rest) → leb_at most (b ∷ bytes) ≡ Ok (b - 128 + 128 * high, rest)
unfolding leb_at
leb_more most b high bytes rest h m l e = grind (arith, nat_tests)

pub below : (n m : ℕ) → nat_lt n m ≡ true → n < m
below n m e = grind (arith, nat_tests)

pub above : (n m : ℕ) → nat_lt n m ≡ false → m ≤ n
above n m e = grind (arith, nat_tests)

pub not_below : (n m : ℕ) → m ≤ n → nat_lt n m ≡ false
not_below n m h = grind (arith, nat_tests)

pub leb_again : (k most n : ℕ) (rest : List ℕ) → n ≤ most → n < 128 * 128 ^ k → leb_at most (leb128 128 k n ++ rest) ≡ Ok (n, rest)
unfolding leb128
leb_again zero most n rest l f = leb_one most n rest (omega arith) l
leb_again (suc k) most n rest l f =
    elim (nat_lt n 128) as (λ t. nat_lt n 128 ≡ t → leb_at most (cond t (n ∷ []) ((128 + n % 128) ∷ leb128 128 k (n / 128)) ++ rest) ≡ Ok (n, rest)) [
      | true ↦ λ e. leb_one most n rest (below n 128 e) l
      | false ↦ λ e.
          let least : 128 ≤ n = above n 128 e in
          leb_more most (128 + n % 128) (n / 128) (leb128 128 k (n / 128) ++ rest) rest (omega arith) (omega arith) (omega arith) (leb_again k (most / 128) (n / 128) rest (omega arith) (omega (arith, pow-succ' 128 k)))
          ∙ ap (λ (m : ℕ). Ok (m, rest)) (omega arith)
    ] refl

index_one : (most n : ℕ) (rest : List ℕ) → n < 64 → n ≤ most → index_within most (n ∷ rest) ≡ Ok (n, rest)
unfolding index_within
index_one most n rest h l = grind (arith, nat_tests)

index_more : (most b high : ℕ) (bytes rest : List ℕ) → 128 ≤ b → 128 ≤ most → b - 128 + 128 * high ≤ most → index_within (most / 128) bytes ≡ Ok (high, rest) → index_within most (b ∷ bytes) ≡ Ok (b - 128 + 128 * high, rest)
unfolding index_within
index_more most b high bytes rest h m l e = grind (arith, nat_tests)

power : (k : ℕ) → 0 < 128 ^ k
power zero = omega arith
power (suc k) = omega (arith, pow-succ' 128 k, power k)

pub index_again : (k most n : ℕ) (rest : List ℕ) → n ≤ most → n < 64 * 128 ^ k → 128 ^ k ≤ most → index_within most (leb128 64 k n ++ rest) ≡ Ok (n, rest)
unfolding leb128
index_again zero most n rest l f m = index_one most n rest (omega arith) l
index_again (suc k) most n rest l f m =
    elim (nat_lt n 64) as (λ t. nat_lt n 64 ≡ t → index_within most (cond t (n ∷ []) ((128 + n % 128) ∷ leb128 64 k (n / 128)) ++ rest) ≡ Ok (n, rest)) [
      | true ↦ λ e. index_one most n rest (below n 64 e) l
      | false ↦ λ e.
          index_more most (128 + n % 128) (n / 128) (leb128 64 k (n / 128) ++ rest) rest (omega arith) (omega (arith, pow-succ' 128 k, power k)) (omega arith) (index_again k (most / 128) (n / 128) rest (omega arith) (omega (arith, pow-succ' 128 k)) (omega (arith, pow-succ' 128 k)))
          ∙ ap (λ (m : ℕ). Ok (m, rest)) (omega arith)
    ] refl

-- ## What numbers are written as

pub guarded : (t : Bool) (a b : List ℕ) → cond t (Some a) None ≡ Some b → (t ≡ true) × (a ≡ b)
guarded true a b e = (refl, cc)
guarded false a b e = absurd (cc)

pub u32_again : (n : ℕ) → Reads u32_at (u32_bytes n) n
unfolding u32_bytes
u32_again n b rest e =
    let g = guarded (nat_lt n (2 ^ 32)) (leb128 128 4 n) b e in
    ap (λ y. u32_at (y ++ rest)) (sym g.1) ∙ leb_again 4 (2 ^ 32 - 1) n rest (omega (arith, below n (2 ^ 32) g.0)) (omega (arith, below n (2 ^ 32) g.0))

pub u64_again : (n : ℕ) → Reads u64_at (u64_bytes n) n
unfolding u64_bytes
u64_again n b rest e =
    let g = guarded (nat_lt n (2 ^ 64)) (leb128 128 9 n) b e in
    ap (λ y. u64_at (y ++ rest)) (sym g.1) ∙ leb_again 9 (2 ^ 64 - 1) n rest (omega (arith, below n (2 ^ 64) g.0)) (omega (arith, below n (2 ^ 64) g.0))

pub s33_again : (n : ℕ) → Reads index_at (s33_bytes n) n
unfolding s33_bytes
s33_again n b rest e =
    let g = guarded (nat_lt n (2 ^ 32)) (leb128 64 4 n) b e in
    ap (λ y. index_at (y ++ rest)) (sym g.1) ∙ index_again 4 (2 ^ 32 - 1) n rest (omega (arith, below n (2 ^ 32) g.0)) (omega (arith, below n (2 ^ 32) g.0)) (omega arith)
