-- Defined types.
use Rattle.std.specs.Prelude.{ℕ, List, ◌==◌, if◌then◌else◌, option_map, Result, Err}
use Rattle.wcv_syntax.specs.declared.component_type.ComponentDefinedType.TheVariants as defined
use Rattle.wcv_syntax.specs.Model.{Defined_form, record_of, variant_of, tuple_of, flags_of, enum_of, simple}
use Rattle.wcv_bytes.specs.declared.fault.Fault.{Fault}
use Rattle.wcv_bytes.specs.declared.fault.Why.TheVariants.{NotType}
use Rattle.wcv_bytes.specs.Reading.{◌>>=◌, fault, byte_at, u32_at, text_at, vec_at, of_one, of_two, under_byte, or_read}
use Rattle.wcv_binary.specs.Values.{primitives, val_at, optional_val_at, param_at, case_at}

-- one that is made of value types or of an index, and of no list
unfoldable pub simple_at : List ℕ → Result (Defined_form × List ℕ) Fault
simple_at bytes = do
  b ← byte_at bytes
  if b.0 == 0x70 then of_one val_at (λ v. simple (defined.List v)) b.1
      else if b.0 == 0x6B then of_one val_at (λ v. simple (defined.Option v)) b.1
      else if b.0 == 0x6A then of_two optional_val_at optional_val_at (λ ok err. simple (defined.Result ok err)) b.1
      else if b.0 == 0x69 then of_one u32_at (λ k. simple (defined.Own k)) b.1
      else if b.0 == 0x68 then of_one u32_at (λ k. simple (defined.Borrow k)) b.1
      else if b.0 == 0x67 then of_two val_at u32_at (λ v n. simple (defined.FixedLengthList v n)) b.1
      else if b.0 == 0x66 then of_one optional_val_at (λ v. simple (defined.Stream v)) b.1
      else if b.0 == 0x65 then of_one optional_val_at (λ v. simple (defined.Future v)) b.1
      else if b.0 == 0x63 then of_two val_at val_at (λ k v. simple (defined.Map k v)) b.1
      else Err (fault NotType bytes)

-- one that is made of a list, or such a one
unfoldable pub compound_at : List ℕ → Result (Defined_form × List ℕ) Fault
compound_at bytes = do
  b ← byte_at bytes
  if b.0 == 0x72 then of_one (vec_at param_at) record_of b.1
      else if b.0 == 0x71 then of_one (vec_at case_at) variant_of b.1
      else if b.0 == 0x6F then of_one (vec_at val_at) tuple_of b.1
      else if b.0 == 0x6E then of_one (vec_at text_at) flags_of b.1
      else if b.0 == 0x6D then of_one (vec_at text_at) enum_of b.1
      else simple_at bytes

-- a primitive, or such a one
unfoldable pub defined_at : List ℕ → Result (Defined_form × List ℕ) Fault
defined_at bytes = do
  b ← byte_at bytes
  or_read (option_map (λ p. simple (defined.Primitive p)) (under_byte primitives b.0)) b.1 (compound_at bytes)
