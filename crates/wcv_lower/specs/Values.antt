-- Value types as they are written, in a context.
use Rattle.std.specs.Prelude.{ℕ, List, [], ◌∷◌, ◌++◌, Option, Some, None}
use Rattle.std.specs.Option.{option_map, option_and_then}
pub use Rattle.wcv_core.specs.Checks.{lacks}
use Rattle.wcv_core.specs.Features.{cm_values, cm_error_context}
pub use Rattle.wcv_core.specs.Features.{has_feature}
use Rattle.wcv_core.specs.declared.features.WasmFeatures.{WasmFeatures}
use Rattle.wcv_core.specs.declared.primitive.PrimitiveValType.{PrimitiveValType}
use Rattle.wcv_core.specs.declared.primitive.PrimitiveValType.TheVariants as prim
use Rattle.wcv_syntax.specs.declared.component_type.ComponentValType.{ComponentValType}
use Rattle.wcv_syntax.specs.declared.component_type.ComponentValType.TheVariants.{Primitive, Ty}
use Rattle.wcv_syntax.specs.declared.instance.ComponentExternalKind.{ComponentExternalKind}
use Rattle.wcv_syntax.specs.declared.instance.ComponentExternalKind.TheVariants as external
use Rattle.wcv_types.specs.Tree.{Sort, is_value, is_resource, Role}
use Rattle.wcv_lower.specs.Checks.{Checks, missing_of}
pub use Rattle.wcv_lower.specs.Context.{type_at}
use Rattle.wcv_lower.specs.Context.{Context}
use Rattle.wcv_lower.specs.Readers.{Reader, Made_parts, sort_of, if_sort}

-- an item of that sort asks for its feature, if it is a value
abbrev pub kind_checks : WasmFeatures → ComponentExternalKind → Checks
kind_checks fs external.Value = lacks fs cm_values
kind_checks fs k = []

-- ## Types by index

-- the type at the index, where it has the sort
abbrev pub type_of_sort : {X : Reader} → Sort → Context X → ℕ → Option X.Entry
type_of_sort {X} s c k = option_and_then (if_sort X s) (type_at c k)

-- no type of that sort stands at the index
abbrev pub sort_checks : {X : Reader} → Sort → Context X → ℕ → Checks
sort_checks {X} s c k = missing_of s (option_map (sort_of X) (type_at c k))

-- the resource type at an index
abbrev pub resource_at : {X : Reader} → Context X → ℕ → Option X.Entry
resource_at c k = type_of_sort is_resource c k

-- ## Value types

abbrev pub value_entry : {X : Reader} → Context X → ComponentValType → Option X.Entry
value_entry {X} c (Primitive p) = Some (X.primitive p)
value_entry c (Ty k) = type_of_sort is_value c k

abbrev pub primitive_checks : WasmFeatures → PrimitiveValType → Checks
primitive_checks fs prim.ErrorContext = lacks fs cm_error_context
primitive_checks fs p = []

abbrev pub value_checks : {X : Reader} → WasmFeatures → Context X → ComponentValType → Checks
value_checks fs c (Primitive p) = primitive_checks fs p
value_checks fs c (Ty k) = sort_checks is_value c k

-- ## Value types in their roles, where one may be left out

abbrev pub Written_parts : Type 0
Written_parts = List (Role × Option ComponentValType)

abbrev pub option_entry : {X : Reader} → Context X → Option ComponentValType → Option X.Entry
option_entry {X} c None = Some X.left_out
option_entry c (Some v) = value_entry c v

abbrev pub behind : (X : Reader) → Role → Option (Made_parts X) → X.Entry → Option (Made_parts X)
behind X r rest x = option_map (λ ps. (r, x) ∷ ps) rest

-- their entries, where each is found
abbrev pub parts_entries : {X : Reader} → Context X → Written_parts → Option (Made_parts X)
parts_entries c [] = Some []
parts_entries {X} c (p ∷ ps) = option_and_then (behind X p.0 (parts_entries c ps)) (option_entry c p.1)

abbrev pub option_checks : {X : Reader} → WasmFeatures → Context X → Option ComponentValType → Checks
option_checks fs c None = []
option_checks fs c (Some v) = value_checks fs c v

abbrev pub parts_checks : {X : Reader} → WasmFeatures → Context X → Written_parts → Checks
parts_checks fs c [] = []
parts_checks fs c (p ∷ ps) = option_checks fs c p.1 ++ parts_checks fs c ps
