-- Unions of features.
use Rattle.std.proofs.Common.{◌≡◌, ℕ, Option, Some, None, option_map, refl, ap, arith}
use Rattle.std.proofs.lemmas.Nat.Bits.{bit_at_or, same_from_bits}
use Rattle.std.specs.Int.Bits.{or_zero_r}
use Rattle.std.specs.Int.RustNames.{bit_or}
use Rattle.wcv_core.specs.declared.features.WasmFeatures.{WasmFeatures}

or_regroup : (a b c : ℕ) → bit_or (bit_or a b) c ≡ bit_or a (bit_or b c)
or_regroup a b c = same_from_bits _ _ (λ i. omega (arith, bit_at_or (bit_or a b) c i, bit_at_or a b i, bit_at_or a (bit_or b c) i, bit_at_or b c i))

-- the union of these features and of those that are still to come
abbrev pub joined : ℕ → Option ℕ → Option WasmFeatures
joined bits rest = option_map (λ more. record { 0 = bit_or bits more }) rest

pub joined_more : (a b : ℕ) (rest : Option ℕ) → joined (bit_or a b) rest ≡ joined a (option_map (bit_or b) rest)
joined_more a b None = refl
joined_more a b (Some more) = ap (λ bits. Some (record { 0 = bits })) (or_regroup a b more)

pub joined_all : (f : WasmFeatures) → joined f.0 (Some 0) ≡ Some f
joined_all f = ap (λ bits. Some (record { 0 = bits })) (or_zero_r f.0)
