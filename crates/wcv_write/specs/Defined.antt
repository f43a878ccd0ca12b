-- Defined types.
use Rattle.std.specs.Prelude.{Option, Some, None, codes}
use Rattle.serde_json.specs.Data.{Data, null, string, array, object, no_items, item, no_members}
use Rattle.wcv_syntax.specs.Model.{Text, Defined_form, record_of, variant_of, tuple_of, flags_of, enum_of, simple}
use Rattle.wcv_syntax.specs.declared.component_type.ComponentDefinedType.{ComponentDefinedType}
use Rattle.wcv_syntax.specs.declared.component_type.ComponentDefinedType.TheVariants as defined
use Rattle.wcv_syntax.specs.declared.component_type.ComponentValType.{ComponentValType}
use Rattle.wcv_syntax.specs.declared.component_type.VariantCase.{VariantCase}
use Rattle.wcv_write.specs.Indices.{Indexing}
use Rattle.wcv_write.specs.Json.{count, list_data, pair, under, with_optional}
use Rattle.wcv_write.specs.Values.{primitive_name, value_data, param_data}
use Rattle.wcv_write.specs.declared.indices.Space.TheVariants as space

-- [name] or [name, value type]
abbrev pub case_parts : Indexing → Text → Option ComponentValType → Data
case_parts ix name None = array (item (string name) no_items)
case_parts ix name (Some v) = pair (string name) (value_data ix v)

abbrev pub case_data : Indexing → VariantCase → Data
case_data ix c = case_parts ix c.name c.ty

-- a value type, or null where there is none
abbrev pub value_or_null : Indexing → Option ComponentValType → Data
value_or_null ix None = null
value_or_null ix (Some v) = value_data ix v

-- {"err": value type, "ok": value type}, each absent or there
unfoldable pub result_data : Indexing → Option ComponentValType → Option ComponentValType → Data
result_data ix ok err = object (with_optional (codes "err") (value_data ix) err (with_optional (codes "ok") (value_data ix) ok no_members))

-- one that holds no vector; another is of no listing
unfoldable pub simple_data : Indexing → ComponentDefinedType → Data
simple_data ix (defined.Primitive p) = string (primitive_name p)
simple_data ix (defined.List v) = under (codes "list") (value_data ix v)
simple_data ix (defined.Map k v) = under (codes "map") (pair (value_data ix k) (value_data ix v))
simple_data ix (defined.FixedLengthList v n) = under (codes "fixed-list") (pair (value_data ix v) (count n))
simple_data ix (defined.Option v) = under (codes "option") (value_data ix v)
simple_data ix (defined.Result ok err) = under (codes "result") (result_data ix ok err)
simple_data ix (defined.Own k) = under (codes "own") (ix space.Ty k)
simple_data ix (defined.Borrow k) = under (codes "borrow") (ix space.Ty k)
simple_data ix (defined.Future v) = under (codes "future") (value_or_null ix v)
simple_data ix (defined.Stream v) = under (codes "stream") (value_or_null ix v)
simple_data ix _ = null

-- the name of a primitive, or {FORM: body}
unfoldable pub defined_data : Indexing → Defined_form → Data
defined_data ix (record_of fields) = under (codes "record") (list_data (param_data ix) fields)
defined_data ix (variant_of cases) = under (codes "variant") (list_data (case_data ix) cases)
defined_data ix (tuple_of types) = under (codes "tuple") (list_data (value_data ix) types)
defined_data ix (flags_of names) = under (codes "flags") (list_data string names)
defined_data ix (enum_of names) = under (codes "enum") (list_data string names)
defined_data ix (simple d) = simple_data ix d
