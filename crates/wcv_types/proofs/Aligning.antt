-- Alignments are no zeros, and sizes that were capped on the way are capped at the end.
use Rattle.std.proofs.Common.{◌≡◌, ℕ, zero, suc, ◌+◌, ◌-◌, ◌*◌, ◌%◌, ◌≤◌, ◌<◌, min, max, refl, sym, ◌∙◌, ap, arith, length, Bool, true, false, cond, ⊎_elim}
use Rattle.std.specs.Prelude.{◌==◌, nat_le}
use Rattle.std.proofs.Math.Nat.{zero-mul, suc-mul}
use Rattle.std.proofs.lemmas.Bool.{cases_lt}
use Rattle.wcv_core.specs.declared.primitive.PrimitiveValType.{PrimitiveValType}
use Rattle.wcv_core.specs.declared.primitive.PrimitiveValType.TheVariants as prim
use Rattle.wcv_types.specs.Abi.{primitive_align, align_up, discriminant, flags_size, variant_size, former_size, former_align, abi_align, greatest_align, count, kept_size}
use Rattle.wcv_types.specs.Tree.{Former, named, record_of, variant_of, list_of, map_of, tuple_of, option_of, result_of, own_of, borrow_of, future_of, stream_of, fixed_list_of, flags_of, enum_of, primitive, defined, Tree, node, Parts, none, part}

-- ## Alignments

cond_positive : (b : Bool) (m n : ℕ) → 1 ≤ m → 1 ≤ n → 1 ≤ cond b m n
cond_positive true m n h k = h
cond_positive false m n h k = k

pub discriminant-positive : (n : ℕ) → 1 ≤ discriminant n
discriminant-positive n = cond_positive (nat_le n 256) 1 _ (omega arith) (cond_positive (nat_le n 65536) 2 4 (omega arith) (omega arith))

flags-positive : (n : ℕ) → 1 ≤ flags_size n
flags-positive n = cond_positive (nat_le n 8) 1 _ (omega arith) (cond_positive (nat_le n 16) 2 4 (omega arith) (omega arith))

primitive-positive : (p : ℕ) → 1 ≤ p → (q : PrimitiveValType) → 1 ≤ primitive_align p q
primitive-positive p h prim.String = h
primitive-positive p h x = omega arith

former-positive : (p : ℕ) → 1 ≤ p → (k : Former) (a n : ℕ) → 1 ≤ a → 1 ≤ former_align p k a n
former-positive p h (named q) a n i = primitive-positive p h q
former-positive p h record_of a n i = i
former-positive p h tuple_of a n i = i
former-positive p h variant_of a n i = omega (arith, i)
former-positive p h (enum_of ls) a n i = discriminant-positive (length ls)
former-positive p h option_of a n i = i
former-positive p h result_of a n i = i
former-positive p h (flags_of ls) a n i = flags-positive (length ls)
former-positive p h list_of a n i = h
former-positive p h map_of a n i = h
former-positive p h (fixed_list_of k) a n i = i
former-positive p h own_of a n i = omega arith
former-positive p h borrow_of a n i = omega arith
former-positive p h future_of a n i = omega arith
former-positive p h stream_of a n i = omega arith

mutual
  pub align-positive : {R I : Type 0} (p : ℕ) → 1 ≤ p → (t : Tree R I) → 1 ≤ abi_align p t
  align-positive p h (node (primitive q) ps) = primitive-positive p h q
  align-positive p h (node (defined i k) ps) = former-positive p h k (greatest_align p ps) (count ps) (greatest-positive p h ps)
  align-positive p h (node x ps) = omega arith

  pub greatest-positive : {R I : Type 0} (p : ℕ) → 1 ≤ p → (ps : Parts R I) → 1 ≤ greatest_align p ps
  greatest-positive p h none = omega arith
  greatest-positive p h (part r t ps) = omega (arith, greatest-positive p h ps)

-- ## Capped sizes

up_least : (a n : ℕ) → n ≤ align_up a n
up_least a n = go (n % a == 0)
  where
    go : (b : Bool) → n ≤ cond b n (n + (a - n % a))
    go true = omega arith
    go false = omega arith

-- capped before it is aligned up, and more behind it
pub aligned-kept : (a n m : ℕ) → kept_size (align_up a (kept_size n) + m) ≡ kept_size (align_up a n + m)
aligned-kept a n m = ⊎_elim
    (λ (h : n < 18446744073709551616). let e : kept_size n ≡ n = omega (arith, h) in ap (λ (k : ℕ). kept_size (align_up a k + m)) e)
    (λ (h : 18446744073709551616 ≤ n). omega (arith, h, up_least a n, up_least a (kept_size n)))
    (cases_lt n 18446744073709551616)

pub sum-kept : (n m : ℕ) → kept_size (n + kept_size m) ≡ kept_size (n + m)
sum-kept n m = omega arith

-- what lies behind others
pub behind-kept : (a n m : ℕ) → min (align_up a (kept_size n) + kept_size m) 18446744073709551615 ≡ kept_size (align_up a n + m)
behind-kept a n m = sum-kept (align_up a (kept_size n)) m ∙ aligned-kept a n m

great : (x y : ℕ) → 18446744073709551615 ≤ y → kept_size (x + y) ≡ 18446744073709551615
great x y h = omega (arith, h)

pub times-kept : (k n : ℕ) → kept_size (k * kept_size n) ≡ kept_size (k * n)
times-kept zero n = (λ j. kept_size ((zero-mul (kept_size n) ∙ sym (zero-mul n)) j))
times-kept (suc k) n = ⊎_elim (small (suc k)) large (cases_lt n 18446744073709551616)
  where
    small : (m : ℕ) → n < 18446744073709551616 → kept_size (m * kept_size n) ≡ kept_size (m * n)
    small m h =
        let e : kept_size n ≡ n = omega (arith, h) in
        ap (λ (x : ℕ). kept_size (m * x)) e

    large : 18446744073709551616 ≤ n → kept_size (suc k * kept_size n) ≡ kept_size (suc k * n)
    large h =
        let a : kept_size (k * kept_size n + kept_size n) ≡ 18446744073709551615 = great (k * kept_size n) (kept_size n) (omega (arith, h)) in
        let b : kept_size (k * n + n) ≡ 18446744073709551615 = great (k * n) n (omega (arith, h)) in
        ap kept_size (suc-mul k (kept_size n)) ∙ a ∙ sym b ∙ ap kept_size (sym (suc-mul k n))

pub up-kept : (a n : ℕ) → kept_size (align_up a (kept_size n)) ≡ kept_size (align_up a n)
up-kept a n = ⊎_elim
    (λ (h : n < 18446744073709551616). let e : kept_size n ≡ n = omega (arith, h) in ap (λ (k : ℕ). kept_size (align_up a k)) e)
    (λ (h : 18446744073709551616 ≤ n). omega (arith, h, up_least a n, up_least a (kept_size n)))
    (cases_lt n 18446744073709551616)

variant-kept : (d a n : ℕ) → kept_size (variant_size d a (kept_size n)) ≡ kept_size (variant_size d a n)
variant-kept d a n =
    let m : ℕ = max d a in
    let x : ℕ = align_up a d in
    sym (up-kept m (x + kept_size n)) ∙ ap (λ (z : ℕ). kept_size (align_up m z)) (sum-kept x n) ∙ up-kept m (x + n)

pub former-kept : (p : ℕ) (k : Former) (end a greatest n : ℕ) → kept_size (former_size p k (kept_size end) a (kept_size greatest) n) ≡ kept_size (former_size p k end a greatest n)
former-kept p record_of end a greatest n = up-kept a end
former-kept p tuple_of end a greatest n = up-kept a end
former-kept p variant_of end a greatest n = variant-kept (discriminant n) a greatest
former-kept p option_of end a greatest n = variant-kept 1 a greatest
former-kept p result_of end a greatest n = variant-kept 1 a greatest
former-kept p (fixed_list_of k) end a greatest n = times-kept k greatest
former-kept p x end a greatest n = refl
