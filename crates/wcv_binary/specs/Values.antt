-- Value types.
use Rattle.std.specs.Prelude.{ℕ, List, [], ◌∷◌, Option, Some, None, option_map, Result, Ok, if◌then◌else◌}
use Rattle.wcv_core.specs.declared.primitive.PrimitiveValType.{PrimitiveValType}
use Rattle.wcv_core.specs.declared.primitive.PrimitiveValType.TheVariants as prim
use Rattle.wcv_syntax.specs.declared.component_type.ComponentValType.{ComponentValType}
use Rattle.wcv_syntax.specs.declared.component_type.ComponentValType.TheVariants.{Primitive, Ty}
use Rattle.wcv_syntax.specs.declared.component_type.VariantCase.{VariantCase}
use Rattle.wcv_syntax.specs.Model.{Text}
use Rattle.wcv_bytes.specs.declared.fault.Fault.{Fault}
use Rattle.wcv_bytes.specs.Reading.{◌>>=◌, byte_at, under_byte, or_read, flag_at, zero_at, text_at, index_at}

-- the primitives by their bytes
abbrev pub primitives : List (ℕ × PrimitiveValType)
primitives =
    (0x7F, prim.Bool)
    ∷ (0x7E, prim.S8)
    ∷ (0x7D, prim.U8)
    ∷ (0x7C, prim.S16)
    ∷ (0x7B, prim.U16)
    ∷ (0x7A, prim.S32)
    ∷ (0x79, prim.U32)
    ∷ (0x78, prim.S64)
    ∷ (0x77, prim.U64)
    ∷ (0x76, prim.F32)
    ∷ (0x75, prim.F64)
    ∷ (0x74, prim.Char)
    ∷ (0x73, prim.String)
    ∷ (0x64, prim.ErrorContext) ∷ []

-- a primitive by its byte, or a type by its index
unfoldable pub val_at : List ℕ → Result (ComponentValType × List ℕ) Fault
val_at bytes = do
  b ← byte_at bytes
  or_read (option_map Primitive (under_byte primitives b.0)) b.1 (index_at bytes >>= λ k. Ok (Ty k.0, k.1))

-- 00 for none, or 01 and a value type
unfoldable pub optional_val_at : List ℕ → Result (Option ComponentValType × List ℕ) Fault
optional_val_at bytes = do
  there ← flag_at bytes
  if there.0 then (val_at there.1 >>= λ v. Ok (Some v.0, v.1)) else Ok (None, there.1)

-- the result of a function: 00 and a value type, or 01 00 for none
unfoldable pub result_at : List ℕ → Result (Option ComponentValType × List ℕ) Fault
result_at bytes = do
  absent ← flag_at bytes
  if absent.0 then (zero_at absent.1 >>= λ rest. Ok (None, rest)) else (val_at absent.1 >>= λ v. Ok (Some v.0, v.1))

-- a name and a value type
unfoldable pub param_at : List ℕ → Result ((Text × ComponentValType) × List ℕ) Fault
param_at bytes = do
  name ← text_at bytes
  v ← val_at name.1
  Ok ((name.0, v.0), v.1)

-- a case of a variant: a name, maybe a payload, and 00
unfoldable pub case_at : List ℕ → Result (VariantCase × List ℕ) Fault
case_at bytes = do
  name ← text_at bytes
  v ← optional_val_at name.1
  rest ← zero_at v.1
  Ok (record { name = name.0; ty = v.0 }, rest)
