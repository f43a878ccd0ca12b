-- What core modules import and export.
use Rattle.std.specs.Prelude.{ℕ, ◌==◌, if◌then◌else◌, codes}
use Rattle.serde_json.specs.Data.{Data, object, Members, no_members, member}
use Rattle.wcv_core.specs.declared.core_types.GlobalType.{GlobalType}
use Rattle.wcv_core.specs.declared.core_types.MemoryType.{MemoryType}
use Rattle.wcv_core.specs.declared.core_types.TableType.{TableType}
use Rattle.wcv_syntax.specs.declared.core_section.TypeRef.{TypeRef}
use Rattle.wcv_syntax.specs.declared.core_section.TypeRef.TheVariants as ref
use Rattle.wcv_write.specs.Core.{core_value_data, ref_type_data}
use Rattle.wcv_write.specs.Json.{count, under, with_mark, with_optional}

-- those that stand behind the elements of a table
abbrev pub limit_members : TableType → Members
limit_members t = with_optional (codes "max") count t.maximum (member (codes "min") (count t.initial) (with_mark (codes "shared") t.shared no_members))

-- {"64": Boolean, "elem": reference type, "max": number, "min": number, "shared": Boolean}
unfoldable pub table_data : TableType → Data
table_data t = object (with_mark (codes "64") t.table64 (member (codes "elem") (ref_type_data t.element_type) (limit_members t)))

-- the exponent of the size of a page, unless it is 16, before others
abbrev pub with_page : ℕ → Members → Members
with_page k ms = if k == 16 then ms else member (codes "page") (count k) ms

-- {"64": Boolean, "max": number, "min": number, "page": number, "shared": Boolean}
unfoldable pub memory_data : MemoryType → Data
memory_data m =
    object (with_mark (codes "64") m.memory64 (with_optional (codes "max") count m.maximum
    (member (codes "min") (count m.initial) (with_page m.page_size_log2 (with_mark (codes "shared") m.shared no_members)))))

-- {"mut": Boolean, "shared": Boolean, "type": core value type}
unfoldable pub global_data : GlobalType → Data
global_data g = object (with_mark (codes "mut") g.mutable (with_mark (codes "shared") g.shared (member (codes "type") (core_value_data g.content_type) no_members)))

-- an object whose only key is the name of a sort
unfoldable pub entity_data : TypeRef → Data
entity_data (ref.Func k) = under (codes "func") (count k)
entity_data (ref.Tag k) = under (codes "tag") (count k)
entity_data (ref.Table t) = under (codes "table") (table_data t)
entity_data (ref.Memory m) = under (codes "memory") (memory_data m)
entity_data (ref.Global g) = under (codes "global") (global_data g)
