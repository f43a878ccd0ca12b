-- Value types, and lists of them by names.
use Rattle.std.specs.Prelude.{ℕ, List, [], ◌∷◌, Option, option_map, option_and_then, codes}
use Rattle.serde_json.specs.Data.{Data}
use Rattle.serde_json.specs.Find.{as_array, as_str}
use Rattle.wcv_core.specs.declared.primitive.PrimitiveValType.{PrimitiveValType}
use Rattle.wcv_core.specs.declared.primitive.PrimitiveValType.TheVariants as prim
use Rattle.wcv_syntax.specs.declared.component_type.ComponentValType.{ComponentValType}
use Rattle.wcv_syntax.specs.declared.component_type.ComponentValType.TheVariants.{Primitive, Ty}
use Rattle.wcv_syntax.specs.Model.{Text}
use Rattle.wcv_listing.specs.Fields.{both, named, index, pair_of, array_of, text_or}

-- the primitives by their names
abbrev pub primitive_names : List (List ℕ × PrimitiveValType)
primitive_names =
    (codes "bool", prim.Bool)
    ∷ (codes "s8", prim.S8)
    ∷ (codes "u8", prim.U8)
    ∷ (codes "s16", prim.S16)
    ∷ (codes "u16", prim.U16)
    ∷ (codes "s32", prim.S32)
    ∷ (codes "u32", prim.U32)
    ∷ (codes "s64", prim.S64)
    ∷ (codes "u64", prim.U64)
    ∷ (codes "f32", prim.F32)
    ∷ (codes "f64", prim.F64)
    ∷ (codes "char", prim.Char)
    ∷ (codes "string", prim.String)
    ∷ (codes "error-context", prim.ErrorContext) ∷ []

abbrev pub primitive_named : Text → Option PrimitiveValType
primitive_named name = named primitive_names name

-- a primitive by its name, or a type by its index
abbrev pub value_of : Data → Option ComponentValType
value_of d = text_or (λ name. option_map Primitive (primitive_named name)) (option_map Ty (index d)) (as_str d)

abbrev pub named_value : Data × Data → Option (Text × ComponentValType)
named_value p = both (λ name value. (name, value)) (as_str p.0) (value_of p.1)

-- [name, value type]
abbrev pub param_of : Data → Option (Text × ComponentValType)
param_of d = option_and_then named_value (option_and_then pair_of (as_array d))

-- [[name, value type], ..]
abbrev pub params_of : Data → Option (List (Text × ComponentValType))
params_of = array_of param_of
