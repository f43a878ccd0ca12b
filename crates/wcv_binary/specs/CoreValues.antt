-- Core value types, reference types and types of fields.
use Rattle.std.specs.Prelude.{ℕ, List, [], ◌∷◌, Bool, true, false, ◌==◌, ◌||◌, if◌then◌else◌, option_map, Result, Err}
use Rattle.wcv_bytes.specs.declared.fault.Fault.{Fault}
use Rattle.wcv_bytes.specs.declared.fault.Why.TheVariants.{NotCoreValue, NotHeap, UnsupportedExact, UnsupportedContinuation}
use Rattle.wcv_bytes.specs.Reading.{◌>>=◌, fault, of_one, of_two, byte_at, flag_at, index_at, under_byte, or_read}
use Rattle.wcv_core.specs.declared.core_types.AbstractHeap.{AbstractHeap}
use Rattle.wcv_core.specs.declared.core_types.AbstractHeap.TheVariants as heap
use Rattle.wcv_core.specs.declared.core_types.FieldType.{FieldType}
use Rattle.wcv_core.specs.declared.core_types.HeapType.{HeapType}
use Rattle.wcv_core.specs.declared.core_types.HeapType.TheVariants.{Abstract, Index}
use Rattle.wcv_core.specs.declared.core_types.RefType.{RefType}
use Rattle.wcv_core.specs.declared.core_types.StorageType.{StorageType}
use Rattle.wcv_core.specs.declared.core_types.StorageType.TheVariants as storage
use Rattle.wcv_core.specs.declared.core_types.ValType.{ValType}
use Rattle.wcv_core.specs.declared.core_types.ValType.TheVariants as val

-- ## Heap types

-- those that a byte names
abbrev pub heap_bytes : List (ℕ × AbstractHeap)
heap_bytes =
    (0x70, heap.Func)
    ∷ (0x6F, heap.Extern)
    ∷ (0x6E, heap.Any)
    ∷ (0x6D, heap.Eq)
    ∷ (0x6C, heap.I31)
    ∷ (0x6B, heap.Struct)
    ∷ (0x6A, heap.Array)
    ∷ (0x71, heap.None)
    ∷ (0x72, heap.NoExtern)
    ∷ (0x73, heap.NoFunc)
    ∷ (0x69, heap.Exn)
    ∷ (0x74, heap.NoExn) ∷ []

-- the bytes of `cont` and `nocont`
abbrev pub is_continuation : ℕ → Bool
is_continuation b = b == 0x68 || b == 0x75

-- one that a byte names
unfoldable pub named_heap_at : List ℕ → Result (AbstractHeap × List ℕ) Fault
named_heap_at bytes = do
  b ← byte_at bytes
  or_read (under_byte heap_bytes b.0) b.1 (Err (fault (if is_continuation b.0 then UnsupportedContinuation else NotHeap) bytes))

-- one that a byte names, or the index of a core type
unfoldable pub heap_at : List ℕ → Result (HeapType × List ℕ) Fault
heap_at bytes = do
  b ← byte_at bytes
  or_read (option_map Abstract (under_byte heap_bytes b.0)) b.1
      (if is_continuation b.0 then Err (fault UnsupportedContinuation bytes)
      else if b.0 == 0x62 then Err (fault UnsupportedExact bytes)
      else of_one index_at Index bytes)

-- ## Reference types

-- the heap of a reference that is written in full: `shared` may stand before a name
unfoldable pub full_ref_at : Bool → List ℕ → Result (RefType × List ℕ) Fault
full_ref_at nullable bytes = do
  b ← byte_at bytes
  if b.0 == 0x65 then of_one named_heap_at (λ h. record { nullable = nullable; shared = true; heap = Abstract h }) b.1
      else of_one heap_at (λ h. record { nullable = nullable; shared = false; heap = h }) bytes

-- one in full, or the name of a heap alone, which is nullable
unfoldable pub ref_type_at : List ℕ → Result (RefType × List ℕ) Fault
ref_type_at bytes = do
  b ← byte_at bytes
  if b.0 == 0x63 then full_ref_at true b.1
      else if b.0 == 0x64 then full_ref_at false b.1
      else or_read (option_map (λ h. record { nullable = true; shared = false; heap = Abstract h }) (under_byte heap_bytes b.0)) b.1
      (Err (fault (if is_continuation b.0 then UnsupportedContinuation else NotCoreValue) bytes))

-- ## Value types

-- those that are no references
abbrev pub number_bytes : List (ℕ × ValType)
number_bytes = (0x7F, val.I32) ∷ (0x7E, val.I64) ∷ (0x7D, val.F32) ∷ (0x7C, val.F64) ∷ (0x7B, val.V128) ∷ []

unfoldable pub core_val_at : List ℕ → Result (ValType × List ℕ) Fault
core_val_at bytes = do
  b ← byte_at bytes
  or_read (under_byte number_bytes b.0) b.1 (of_one ref_type_at val.Ref bytes)

-- ## Types of fields

-- those that only fields have
abbrev pub packed_bytes : List (ℕ × StorageType)
packed_bytes = (0x78, storage.I8) ∷ (0x77, storage.I16) ∷ []

unfoldable pub storage_at : List ℕ → Result (StorageType × List ℕ) Fault
storage_at bytes = do
  b ← byte_at bytes
  or_read (under_byte packed_bytes b.0) b.1 (of_one core_val_at storage.Val bytes)

-- how it is stored, and whether it can be changed
unfoldable pub field_at : List ℕ → Result (FieldType × List ℕ) Fault
field_at bytes = of_two storage_at flag_at (λ stored flag. record { storage = stored; mutable = flag }) bytes
