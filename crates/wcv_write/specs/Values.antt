-- Value types.
use Rattle.std.specs.Prelude.{codes}
use Rattle.serde_json.specs.Data.{Data, string}
use Rattle.wcv_core.specs.declared.primitive.PrimitiveValType.{PrimitiveValType}
use Rattle.wcv_core.specs.declared.primitive.PrimitiveValType.TheVariants as prim
use Rattle.wcv_syntax.specs.Model.{Text}
use Rattle.wcv_syntax.specs.declared.component_type.ComponentValType.{ComponentValType}
use Rattle.wcv_syntax.specs.declared.component_type.ComponentValType.TheVariants.{Primitive, Ty}
use Rattle.wcv_write.specs.Indices.{Indexing}
use Rattle.wcv_write.specs.Json.{pair}
use Rattle.wcv_write.specs.declared.indices.Space.TheVariants as space

-- the name of a primitive
abbrev pub primitive_name : PrimitiveValType → Text
primitive_name prim.Bool = codes "bool"
primitive_name prim.S8 = codes "s8"
primitive_name prim.U8 = codes "u8"
primitive_name prim.S16 = codes "s16"
primitive_name prim.U16 = codes "u16"
primitive_name prim.S32 = codes "s32"
primitive_name prim.U32 = codes "u32"
primitive_name prim.S64 = codes "s64"
primitive_name prim.U64 = codes "u64"
primitive_name prim.F32 = codes "f32"
primitive_name prim.F64 = codes "f64"
primitive_name prim.Char = codes "char"
primitive_name prim.String = codes "string"
primitive_name prim.ErrorContext = codes "error-context"

-- a primitive by its name, or a type by its index
unfoldable pub value_data : Indexing → ComponentValType → Data
value_data ix (Primitive p) = string (primitive_name p)
value_data ix (Ty k) = ix space.Ty k

-- [name, value type]
abbrev pub param_data : Indexing → Text × ComponentValType → Data
param_data ix p = pair (string p.0) (value_data ix p.1)
