-- Value types, defined types and function types as bytes.
use Rattle.std.specs.Prelude.{ℕ, [], ◌∷◌, if◌then◌else◌, Option, Some, None}
use Rattle.wcv_core.specs.declared.primitive.PrimitiveValType.{PrimitiveValType}
use Rattle.wcv_core.specs.declared.primitive.PrimitiveValType.TheVariants as prim
use Rattle.wcv_syntax.specs.declared.component_type.ComponentDefinedType.{ComponentDefinedType}
use Rattle.wcv_syntax.specs.declared.component_type.ComponentDefinedType.TheVariants as defined
use Rattle.wcv_syntax.specs.declared.component_type.ComponentValType.{ComponentValType}
use Rattle.wcv_syntax.specs.declared.component_type.ComponentValType.TheVariants as value
use Rattle.wcv_syntax.specs.declared.component_type.VariantCase.{VariantCase}
use Rattle.wcv_syntax.specs.Model.{Text, Defined_form, record_of, variant_of, tuple_of, flags_of, enum_of, simple, Func_form}
use Rattle.wcv_encode.specs.Bytes.{Bytes, ◌⧺◌, byte, u32_bytes, s33_bytes, text, vec, maybe}

unfoldable pub prim_byte : PrimitiveValType → ℕ
prim_byte prim.Bool = 0x7F
prim_byte prim.S8 = 0x7E
prim_byte prim.U8 = 0x7D
prim_byte prim.S16 = 0x7C
prim_byte prim.U16 = 0x7B
prim_byte prim.S32 = 0x7A
prim_byte prim.U32 = 0x79
prim_byte prim.S64 = 0x78
prim_byte prim.U64 = 0x77
prim_byte prim.F32 = 0x76
prim_byte prim.F64 = 0x75
prim_byte prim.Char = 0x74
prim_byte prim.String = 0x73
prim_byte prim.ErrorContext = 0x64

unfoldable pub value_bytes : ComponentValType → Bytes
value_bytes (value.Primitive p) = byte (prim_byte p)
value_bytes (value.Ty i) = s33_bytes i

abbrev pub maybe_value : Option ComponentValType → Bytes
maybe_value v = maybe value_bytes v

-- a name and a type
unfoldable pub field_of : Text × ComponentValType → Bytes
field_of f = text f.0 ⧺ value_bytes f.1

-- a case refines no other
unfoldable pub case_bytes : VariantCase → Bytes
case_bytes c = text c.name ⧺ maybe_value c.ty ⧺ byte 0

-- a type that holds no list
unfoldable pub simple_bytes : ComponentDefinedType → Bytes
simple_bytes (defined.Primitive p) = byte (prim_byte p)
simple_bytes (defined.List v) = byte 0x70 ⧺ value_bytes v
simple_bytes (defined.Option v) = byte 0x6B ⧺ value_bytes v
simple_bytes (defined.Result ok err) = byte 0x6A ⧺ maybe_value ok ⧺ maybe_value err
simple_bytes (defined.Own i) = byte 0x69 ⧺ u32_bytes i
simple_bytes (defined.Borrow i) = byte 0x68 ⧺ u32_bytes i
simple_bytes (defined.FixedLengthList v n) = byte 0x67 ⧺ value_bytes v ⧺ u32_bytes n
simple_bytes (defined.Stream v) = byte 0x66 ⧺ maybe_value v
simple_bytes (defined.Future v) = byte 0x65 ⧺ maybe_value v
simple_bytes (defined.Map k v) = byte 0x63 ⧺ value_bytes k ⧺ value_bytes v
simple_bytes d = None

unfoldable pub defined_bytes : Defined_form → Bytes
defined_bytes (record_of fs) = byte 0x72 ⧺ vec field_of fs
defined_bytes (variant_of cs) = byte 0x71 ⧺ vec case_bytes cs
defined_bytes (tuple_of vs) = byte 0x6F ⧺ vec value_bytes vs
defined_bytes (flags_of ns) = byte 0x6E ⧺ vec text ns
defined_bytes (enum_of ns) = byte 0x6D ⧺ vec text ns
defined_bytes (simple d) = simple_bytes d

-- the result of a function, or that there is none
unfoldable pub result_bytes : Option ComponentValType → Bytes
result_bytes (Some v) = byte 0 ⧺ value_bytes v
result_bytes None = Some (1 ∷ 0 ∷ [])

unfoldable pub func_bytes : Func_form → Bytes
func_bytes f = byte (if f.async then 0x43 else 0x40) ⧺ vec field_of f.params ⧺ result_bytes f.result
