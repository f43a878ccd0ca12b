-- How value types lie in memory, by the canonical ABI, where a pointer has p bytes, and what stands in them.
use Rattle.std.specs.Prelude.{ℕ, suc, zero, min, max, ◌+◌, ◌*◌, ◌-◌, ◌%◌, ◌==◌, ◌≡◌, length, Bool, true, false, ◌||◌, cond, nat_le}
use Rattle.wcv_core.specs.declared.primitive.PrimitiveValType.{PrimitiveValType}
use Rattle.wcv_core.specs.declared.primitive.PrimitiveValType.TheVariants as prim
use Rattle.wcv_types.specs.Tree.{Former, named, record_of, variant_of, list_of, map_of, tuple_of, option_of, result_of, own_of, borrow_of, future_of, stream_of, fixed_list_of, flags_of, enum_of, primitive, defined, Tree, node, Parts, none, part}
use Rattle.wcv_types.specs.declared.abi.AbiInfo.{AbiInfo}

-- ## Size and alignment

abbrev pub primitive_size : ℕ → PrimitiveValType → ℕ
primitive_size p prim.Bool = 1
primitive_size p prim.S8 = 1
primitive_size p prim.U8 = 1
primitive_size p prim.S16 = 2
primitive_size p prim.U16 = 2
primitive_size p prim.S32 = 4
primitive_size p prim.U32 = 4
primitive_size p prim.S64 = 8
primitive_size p prim.U64 = 8
primitive_size p prim.F32 = 4
primitive_size p prim.F64 = 8
primitive_size p prim.Char = 4
primitive_size p prim.String = p + p
primitive_size p prim.ErrorContext = 4

abbrev pub primitive_align : ℕ → PrimitiveValType → ℕ
primitive_align p prim.String = p
primitive_align p q = primitive_size p q

-- the least multiple of a that is at least n
abbrev pub align_up : ℕ → ℕ → ℕ
align_up a n = cond (n % a == 0) n (n + (a - n % a))

-- what tells one of n cases
abbrev pub discriminant : ℕ → ℕ
discriminant n = cond (nat_le n 256) 1 (cond (nat_le n 65536) 2 4)

-- one bit for each of n flags
abbrev pub flags_size : ℕ → ℕ
flags_size n = cond (nat_le n 8) 1 (cond (nat_le n 16) 2 4)

-- a discriminant of d bytes, and behind it the payload, which has at most that alignment and that size
abbrev pub variant_size : ℕ → ℕ → ℕ → ℕ
variant_size d align payload = align_up (max d align) (align_up align d + payload)

-- from where its n parts end if they lie one behind another, from their greatest alignment, and from their greatest size
abbrev pub former_size : ℕ → Former → ℕ → ℕ → ℕ → ℕ → ℕ
former_size p (named q) end align greatest n = primitive_size p q
former_size p record_of end align greatest n = align_up align end
former_size p tuple_of end align greatest n = align_up align end
former_size p variant_of end align greatest n = variant_size (discriminant n) align greatest
former_size p (enum_of ls) end align greatest n = discriminant (length ls)
former_size p option_of end align greatest n = variant_size 1 align greatest
former_size p result_of end align greatest n = variant_size 1 align greatest
former_size p (flags_of ls) end align greatest n = flags_size (length ls)
former_size p list_of end align greatest n = p + p
former_size p map_of end align greatest n = p + p
-- the elements have the size of its one part
former_size p (fixed_list_of k) end align greatest n = k * greatest
former_size p own_of end align greatest n = 4
former_size p borrow_of end align greatest n = 4
former_size p future_of end align greatest n = 4
former_size p stream_of end align greatest n = 4

abbrev pub former_align : ℕ → Former → ℕ → ℕ → ℕ
former_align p (named q) align n = primitive_align p q
former_align p record_of align n = align
former_align p tuple_of align n = align
former_align p variant_of align n = max (discriminant n) align
former_align p (enum_of ls) align n = discriminant (length ls)
former_align p option_of align n = align
former_align p result_of align n = align
former_align p (flags_of ls) align n = flags_size (length ls)
former_align p list_of align n = p
former_align p map_of align n = p
former_align p (fixed_list_of k) align n = align
former_align p own_of align n = 4
former_align p borrow_of align n = 4
former_align p future_of align n = 4
former_align p stream_of align n = 4

abbrev pub count : {R I : Type 0} → Parts R I → ℕ
count none = zero
count (part r t ps) = suc (count ps)

-- what is left out has no bytes
abbrev mutual
  pub abi_align : {R I : Type 0} → ℕ → Tree R I → ℕ
  abi_align p (node (primitive q) ps) = primitive_align p q
  abi_align p (node (defined i k) ps) = former_align p k (greatest_align p ps) (count ps)
  abi_align p (node h ps) = 1

  -- 1 where there is no part
  pub greatest_align : {R I : Type 0} → ℕ → Parts R I → ℕ
  greatest_align p none = 1
  greatest_align p (part r t ps) = max (abi_align p t) (greatest_align p ps)

abbrev mutual
  pub abi_size : {R I : Type 0} → ℕ → Tree R I → ℕ
  abi_size p (node (primitive q) ps) = primitive_size p q
  abi_size p (node (defined i k) ps) = former_size p k (end_of p 0 ps) (greatest_align p ps) (greatest_size p ps) (count ps)
  abi_size p (node h ps) = 0

  -- where the parts end, each aligned up in turn, from `at` on
  pub end_of : {R I : Type 0} → ℕ → ℕ → Parts R I → ℕ
  end_of p at none = at
  end_of p at (part r t ps) = end_of p (align_up (abi_align p t) at + abi_size p t) ps

  pub greatest_size : {R I : Type 0} → ℕ → Parts R I → ℕ
  greatest_size p none = 0
  greatest_size p (part r t ps) = max (abi_size p t) (greatest_size p ps)

-- ## What stands in a type

pub data Mark : Type 0 where
  -- a string, a list or a map, futures and streams aside
  pointer : Mark
  -- a handle, a future, a stream or an error context
  handle : Mark
  -- a borrowed handle
  borrow : Mark

abbrev pub primitive_has : Mark → PrimitiveValType → Bool
primitive_has pointer prim.String = true
primitive_has handle prim.ErrorContext = true
primitive_has m q = false

-- from whether a part has it
abbrev pub former_has : Mark → Former → Bool → Bool
former_has m (named q) inner = primitive_has m q
former_has pointer list_of inner = true
former_has pointer map_of inner = true
former_has pointer future_of inner = false
former_has pointer stream_of inner = false
former_has handle own_of inner = true
former_has handle borrow_of inner = true
former_has handle future_of inner = true
former_has handle stream_of inner = true
former_has borrow borrow_of inner = true
former_has m k inner = inner

abbrev mutual
  pub contains : {R I : Type 0} → Mark → Tree R I → Bool
  contains m (node (primitive q) ps) = primitive_has m q
  contains m (node (defined i k) ps) = former_has m k (any_contains m ps)
  contains m (node h ps) = false

  pub any_contains : {R I : Type 0} → Mark → Parts R I → Bool
  any_contains m none = false
  any_contains m (part r t ps) = contains m t || any_contains m ps

-- ## What is kept of a type

-- a size as it is kept
abbrev pub kept_size : ℕ → ℕ
kept_size n = min n 18446744073709551615

pub record IsAbiOf {R I : Type 0} (a : AbiInfo) (t : Tree R I) : Type 0 where
  pub size32 : a.size32 ≡ kept_size (abi_size 4 t)
  pub align32 : a.align32 ≡ abi_align 4 t
  pub size64 : a.size64 ≡ kept_size (abi_size 8 t)
  pub align64 : a.align64 ≡ abi_align 8 t
  pub contains_ptr : a.contains_ptr ≡ contains pointer t
  pub contains_handle : a.contains_handle ≡ contains handle t
  pub contains_borrow : a.contains_borrow ≡ contains borrow t
