-- Core value types.
use Rattle.std.specs.Prelude.{codes}
use Rattle.serde_json.specs.Data.{Data, null, string, object, no_members, member}
use Rattle.wcv_core.specs.CoreFeatures.{heap_word}
use Rattle.wcv_core.specs.declared.core_types.HeapType.{HeapType}
use Rattle.wcv_core.specs.declared.core_types.HeapType.TheVariants as heap
use Rattle.wcv_core.specs.declared.core_types.RefType.{RefType}
use Rattle.wcv_core.specs.declared.core_types.ValType.{ValType}
use Rattle.wcv_core.specs.declared.core_types.ValType.TheVariants as val
use Rattle.wcv_write.specs.Json.{count, with_mark}

-- A heap type by its word, or a core type by its index. One by its id is that of no listing.
abbrev pub heap_data : HeapType → Data
heap_data (heap.Abstract a) = string (heap_word a)
heap_data (heap.Index k) = count k
heap_data (heap.Id t) = null

-- {"null": Boolean, "ref": heap, "shared": Boolean}
unfoldable pub ref_type_data : RefType → Data
ref_type_data r = object (with_mark (codes "null") r.nullable (member (codes "ref") (heap_data r.heap) (with_mark (codes "shared") r.shared no_members)))

-- a core value type
unfoldable pub core_value_data : ValType → Data
core_value_data val.I32 = string (codes "i32")
core_value_data val.I64 = string (codes "i64")
core_value_data val.F32 = string (codes "f32")
core_value_data val.F64 = string (codes "f64")
core_value_data val.V128 = string (codes "v128")
core_value_data (val.Ref r) = ref_type_data r
