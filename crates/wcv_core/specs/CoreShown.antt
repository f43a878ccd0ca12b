-- Core types as they are printed.
use Rattle.std.specs.Prelude.{ℕ, List, [], ◌++◌, flat_map, Bool, cond, codes, Option, Some, None}
use Rattle.std.specs.Fmt.{decimal}
use Rattle.wcv_core.specs.CoreFeatures.{heap_word}
use Rattle.wcv_core.specs.CoreForm.{CompositeForm, func_form, struct_form, array_form, SubForm, sub_form}
use Rattle.wcv_core.specs.declared.core_types.CoreTypeId.{CoreTypeId}
use Rattle.wcv_core.specs.declared.core_types.EntityType.{EntityType}
use Rattle.wcv_core.specs.declared.core_types.EntityType.TheVariants as entity
use Rattle.wcv_core.specs.declared.core_types.FieldType.{FieldType}
use Rattle.wcv_core.specs.declared.core_types.GlobalType.{GlobalType}
use Rattle.wcv_core.specs.declared.core_types.HeapType.{HeapType}
use Rattle.wcv_core.specs.declared.core_types.HeapType.TheVariants as heap
use Rattle.wcv_core.specs.declared.core_types.MemoryType.{MemoryType}
use Rattle.wcv_core.specs.declared.core_types.RefType.{RefType}
use Rattle.wcv_core.specs.declared.core_types.StorageType.{StorageType}
use Rattle.wcv_core.specs.declared.core_types.StorageType.TheVariants as storage
use Rattle.wcv_core.specs.declared.core_types.SubType.{SubType}
use Rattle.wcv_core.specs.declared.core_types.SuperType.{SuperType}
use Rattle.wcv_core.specs.declared.core_types.SuperType.TheVariants as super
use Rattle.wcv_core.specs.declared.core_types.TableType.{TableType}
use Rattle.wcv_core.specs.declared.core_types.ValType.{ValType}
use Rattle.wcv_core.specs.declared.core_types.ValType.TheVariants as val

abbrev pub Text : Type 0
Text = List ℕ

-- a text, where that is so
abbrev pub mark_shown : Bool → Text → Text
mark_shown b t = cond b t []

-- ## Types

-- an id of the table
abbrev pub id_shown : CoreTypeId → Text
id_shown i = codes "#" ++ decimal i.index

-- an index as it was written
abbrev pub heap_shown : HeapType → Text
heap_shown (heap.Abstract a) = heap_word a
heap_shown (heap.Index k) = decimal k
heap_shown (heap.Id i) = id_shown i

abbrev pub ref_shown : RefType → Text
ref_shown r = codes "(ref " ++ mark_shown r.nullable (codes "null ") ++ mark_shown r.shared (codes "(shared ") ++ heap_shown r.heap ++ mark_shown r.shared (codes ")") ++ codes ")"

abbrev pub val_shown : ValType → Text
val_shown val.I32 = codes "i32"
val_shown val.I64 = codes "i64"
val_shown val.F32 = codes "f32"
val_shown val.F64 = codes "f64"
val_shown val.V128 = codes "v128"
val_shown (val.Ref r) = ref_shown r

abbrev pub storage_shown : StorageType → Text
storage_shown storage.I8 = codes "i8"
storage_shown storage.I16 = codes "i16"
storage_shown (storage.Val v) = val_shown v

abbrev pub field_shown : FieldType → Text
field_shown f = mark_shown f.mutable (codes "(mut ") ++ storage_shown f.storage ++ mark_shown f.mutable (codes ")")

-- each behind a space
abbrev pub vals_shown : List ValType → Text
vals_shown vs = flat_map (λ v. codes " " ++ val_shown v) vs

abbrev pub fields_shown : List FieldType → Text
fields_shown fs = flat_map (λ f. codes " (field " ++ field_shown f ++ codes ")") fs

abbrev pub form_shown : CompositeForm → Text
form_shown (func_form ps rs) = codes "(func (param" ++ vals_shown ps ++ codes ") (result" ++ vals_shown rs ++ codes "))"
form_shown (struct_form fs) = codes "(struct" ++ fields_shown fs ++ codes ")"
form_shown (array_form f) = codes "(array " ++ field_shown f ++ codes ")"

abbrev pub super_shown : SuperType → Text
super_shown (super.Index k) = decimal k
super_shown (super.Id i) = id_shown i

-- the declared supertype, before a space, where there is one
abbrev pub above_shown : Option SuperType → Text
above_shown None = []
above_shown (Some s) = super_shown s ++ codes " "

unfoldable pub sub_shown : SubForm → Text
sub_shown s =
    codes "(sub " ++ mark_shown s.is_final (codes "final ") ++ above_shown s.supertype ++ mark_shown s.shared (codes "(shared ") ++ form_shown s.inner ++ mark_shown s.shared (codes ")") ++ codes ")"

-- each behind a space
abbrev pub types_shown : List SubType → Text
types_shown ts = flat_map (λ t. codes " (type " ++ sub_shown (sub_form t) ++ codes ")") ts

-- ## Items

-- the greatest number, behind a space, where there is one
abbrev pub greatest_shown : Option ℕ → Text
greatest_shown None = []
greatest_shown (Some n) = codes " " ++ decimal n

abbrev pub table_shown : TableType → Text
table_shown t =
    codes "(table " ++ mark_shown t.table64 (codes "i64 ") ++ decimal t.initial ++ greatest_shown t.maximum ++ mark_shown t.shared (codes " shared") ++ codes " " ++ ref_shown t.element_type ++ codes ")"

-- pages have 2 to the power of that number of bytes
unfoldable pub pages_shown : ℕ → Text
pages_shown n = codes " (pagesize 2^" ++ decimal n ++ codes ")"

abbrev pub memory_shown : MemoryType → Text
memory_shown m =
    codes "(memory " ++ mark_shown m.memory64 (codes "i64 ") ++ decimal m.initial ++ greatest_shown m.maximum ++ mark_shown m.shared (codes " shared") ++ pages_shown m.page_size_log2 ++ codes ")"

abbrev pub global_shown : GlobalType → Text
global_shown g =
    codes "(global " ++ mark_shown g.shared (codes "shared ") ++ mark_shown g.mutable (codes "(mut ") ++ val_shown g.content_type ++ mark_shown g.mutable (codes ")") ++ codes ")"

abbrev pub entity_shown : EntityType → Text
entity_shown (entity.Func t) = codes "(func (type " ++ id_shown t ++ codes "))"
entity_shown (entity.Tag t) = codes "(tag (type " ++ id_shown t ++ codes "))"
entity_shown (entity.Table t) = table_shown t
entity_shown (entity.Memory m) = memory_shown m
entity_shown (entity.Global g) = global_shown g
