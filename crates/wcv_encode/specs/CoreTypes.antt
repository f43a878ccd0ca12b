-- Core types as bytes.
use Rattle.std.specs.Prelude.{ℕ, ◌+◌, ◌==◌, [], ◌∷◌, Bool, true, false, not, is_some, if◌then◌else◌, Option, Some, None}
use Rattle.wcv_core.specs.CoreForm.{Group, SubForm, CompositeForm, func_form, struct_form, array_form}
use Rattle.wcv_core.specs.declared.core_types.AbstractHeap.{AbstractHeap}
use Rattle.wcv_core.specs.declared.core_types.AbstractHeap.TheVariants as abstract
use Rattle.wcv_core.specs.declared.core_types.FieldType.{FieldType}
use Rattle.wcv_core.specs.declared.core_types.GlobalType.{GlobalType}
use Rattle.wcv_core.specs.declared.core_types.HeapType.{HeapType}
use Rattle.wcv_core.specs.declared.core_types.HeapType.TheVariants as heap
use Rattle.wcv_core.specs.declared.core_types.MemoryType.{MemoryType}
use Rattle.wcv_core.specs.declared.core_types.RefType.{RefType}
use Rattle.wcv_core.specs.declared.core_types.StorageType.{StorageType}
use Rattle.wcv_core.specs.declared.core_types.StorageType.TheVariants as storage
use Rattle.wcv_core.specs.declared.core_types.SuperType.{SuperType}
use Rattle.wcv_core.specs.declared.core_types.SuperType.TheVariants as super
use Rattle.wcv_core.specs.declared.core_types.TableType.{TableType}
use Rattle.wcv_core.specs.declared.core_types.ValType.{ValType}
use Rattle.wcv_core.specs.declared.core_types.ValType.TheVariants as val
use Rattle.wcv_encode.specs.Bytes.{Bytes, ◌⧺◌, byte, flag, u32_bytes, u64_bytes, s33_bytes, vec, if_some}

-- ## Value types

unfoldable pub abstract_byte : AbstractHeap → ℕ
abstract_byte abstract.NoExn = 0x74
abstract_byte abstract.NoFunc = 0x73
abstract_byte abstract.NoExtern = 0x72
abstract_byte abstract.None = 0x71
abstract_byte abstract.Func = 0x70
abstract_byte abstract.Extern = 0x6F
abstract_byte abstract.Any = 0x6E
abstract_byte abstract.Eq = 0x6D
abstract_byte abstract.I31 = 0x6C
abstract_byte abstract.Struct = 0x6B
abstract_byte abstract.Array = 0x6A
abstract_byte abstract.Exn = 0x69

-- a heap, which is shared or not; an id has no bytes, nor has a shared index
unfoldable pub heap_bytes : Bool → HeapType → Bytes
heap_bytes false (heap.Abstract a) = byte (abstract_byte a)
heap_bytes true (heap.Abstract a) = byte 0x65 ⧺ byte (abstract_byte a)
heap_bytes false (heap.Index i) = s33_bytes i
heap_bytes true (heap.Index i) = None
heap_bytes shared (heap.Id i) = None

-- where the reference may be null and a word names what is not shared, the word's byte alone
unfoldable pub ref_form : Bool → Bool → HeapType → Bytes
ref_form true false (heap.Abstract a) = byte (abstract_byte a)
ref_form nullable shared h = byte (if nullable then 0x63 else 0x64) ⧺ heap_bytes shared h

abbrev pub ref_bytes : RefType → Bytes
ref_bytes r = ref_form r.nullable r.shared r.heap

unfoldable pub val_bytes : ValType → Bytes
val_bytes val.I32 = byte 0x7F
val_bytes val.I64 = byte 0x7E
val_bytes val.F32 = byte 0x7D
val_bytes val.F64 = byte 0x7C
val_bytes val.V128 = byte 0x7B
val_bytes (val.Ref r) = ref_bytes r

-- ## Groups

unfoldable pub storage_bytes : StorageType → Bytes
storage_bytes storage.I8 = byte 0x78
storage_bytes storage.I16 = byte 0x77
storage_bytes (storage.Val t) = val_bytes t

unfoldable pub field_bytes : FieldType → Bytes
field_bytes f = storage_bytes f.storage ⧺ flag f.mutable

unfoldable pub composite_bytes : CompositeForm → Bytes
composite_bytes (func_form params results) = byte 0x60 ⧺ vec val_bytes params ⧺ vec val_bytes results
composite_bytes (struct_form fields) = byte 0x5F ⧺ vec field_bytes fields
composite_bytes (array_form field) = byte 0x5E ⧺ field_bytes field

-- the supertypes of a type, of which there is at most one
unfoldable pub supers : Option SuperType → Bytes
supers None = byte 0
supers (Some (super.Index i)) = byte 1 ⧺ u32_bytes i
supers (Some (super.Id i)) = None

-- what stands before the form of a type: nothing where it is final and has no supertype
unfoldable pub sub_mark : Bool → Option SuperType → Bytes
sub_mark true None = Some []
sub_mark final parent = byte (if final then 0x4F else 0x50) ⧺ supers parent

-- a byte that marks what is shared, or nothing
unfoldable pub shared_mark : Bool → Bytes
shared_mark shared = if shared then byte 0x65 else Some []

unfoldable pub sub_bytes : SubForm → Bytes
sub_bytes s = sub_mark s.is_final s.supertype ⧺ shared_mark s.shared ⧺ composite_bytes s.inner

-- a group of one is its type
unfoldable pub group_bytes : Group → Bytes
group_bytes (s ∷ []) = sub_bytes s
group_bytes g = byte 0x4E ⧺ vec sub_bytes g

-- ## Entities

-- a bit of a byte of marks
abbrev pub mark : Bool → ℕ → ℕ
mark on bit = if on then bit else 0

-- sizes, behind a byte of marks of which the lowest says whether there is a maximum
unfoldable pub limits : ℕ → ℕ → Option ℕ → Bytes
limits marks initial maximum = byte (mark (is_some maximum) 1 + marks) ⧺ u64_bytes initial ⧺ if_some u64_bytes maximum

unfoldable pub table_bytes : TableType → Bytes
table_bytes t = ref_bytes t.element_type ⧺ limits (mark t.shared 2 + mark t.table64 4) t.initial t.maximum

-- the exponent of the page stands where the page is not of 2 ^ 16 bytes
unfoldable pub page : ℕ → Bytes
page exponent = if exponent == 16 then Some [] else u32_bytes exponent

unfoldable pub memory_bytes : MemoryType → Bytes
memory_bytes m = limits (mark m.shared 2 + mark m.memory64 4 + mark (not (m.page_size_log2 == 16)) 8) m.initial m.maximum ⧺ page m.page_size_log2

unfoldable pub global_bytes : GlobalType → Bytes
global_bytes g = val_bytes g.content_type ⧺ byte (mark g.mutable 1 + mark g.shared 2)
