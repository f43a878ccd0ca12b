-- Groups as they were written, and their closed forms.
use Rattle.std.specs.Prelude.{ℕ, ◌+◌, ◌-◌, ◌<◌, List, [], ◌∷◌, ◌++◌, length, map, Bool, true, false, Option, Some, None, nat_lt, not, slice_get}
use Rattle.wcv_core.specs.Checks.{Checks, all_checks, missing}
use Rattle.wcv_core.specs.declared.core_types.FieldType.{FieldType}
use Rattle.wcv_core.specs.declared.core_types.HeapType.{HeapType}
use Rattle.wcv_core.specs.declared.core_types.HeapType.TheVariants as heap
use Rattle.wcv_core.specs.declared.core_types.StorageType.{StorageType}
use Rattle.wcv_core.specs.declared.core_types.StorageType.TheVariants as storage
use Rattle.wcv_core.specs.declared.core_types.SuperType.{SuperType}
use Rattle.wcv_core.specs.declared.core_types.SuperType.TheVariants as super
use Rattle.wcv_core.specs.declared.core_types.ValType.{ValType}
use Rattle.wcv_core.specs.declared.core_types.ValType.TheVariants as val
use Rattle.wcv_core.specs.declared.error.ErrorKind.TheVariants as kind
use Rattle.wcv_core.specs.CoreForm.{CompositeForm, func_form, struct_form, array_form, SubForm, Group}

-- what an index of a space of core types stands for
pub data Core_entry : Type 0 where
  -- the type with this id
  sub_entry : ℕ → Core_entry
  -- a module type
  module_entry : Core_entry

abbrev pub is_module : Option Core_entry → Bool
is_module (Some module_entry) = true
is_module _ = false

-- no core type stands at an index
abbrev pub entry_checks : Option Core_entry → Checks
entry_checks o = missing o ++ (kind.WrongSort, is_module o) ∷ []

-- the entries are types of a table of n types
abbrev pub IsKnown : ℕ → Core_entry → Type 0
IsKnown n (sub_entry i) = i < n
IsKnown n module_entry = Unit {0}

-- ## References, in a group of this length that is added behind these entries, over a table of n types

-- an index past the entries is that of an own type
abbrev pub heap_checks : ℕ → List Core_entry → ℕ → HeapType → Checks
heap_checks n es len (heap.Index k) = (kind.OutOfBounds, not (nat_lt k (length es + len))) ∷ (kind.WrongSort, is_module (slice_get es k)) ∷ []
heap_checks n es len (heap.Id i) = (kind.OutOfBounds, not (nat_lt i.index n)) ∷ []
heap_checks n es len (heap.Abstract a) = []

abbrev pub val_checks : ℕ → List Core_entry → ℕ → ValType → Checks
val_checks n es len (val.Ref r) = heap_checks n es len r.heap
val_checks n es len _ = []

abbrev pub storage_checks : ℕ → List Core_entry → ℕ → StorageType → Checks
storage_checks n es len (storage.Val v) = val_checks n es len v
storage_checks n es len _ = []

abbrev pub field_checks : ℕ → List Core_entry → ℕ → FieldType → Checks
field_checks n es len f = storage_checks n es len f.storage

abbrev pub form_checks : ℕ → List Core_entry → ℕ → CompositeForm → Checks
form_checks n es len (func_form ps rs) = all_checks (val_checks n es len) ps ++ all_checks (val_checks n es len) rs
form_checks n es len (struct_form fs) = all_checks (field_checks n es len) fs
form_checks n es len (array_form f) = field_checks n es len f

abbrev pub super_heap : SuperType → HeapType
super_heap (super.Index n) = heap.Index n
super_heap (super.Id i) = heap.Id i

abbrev pub super_index_checks : ℕ → List Core_entry → ℕ → Option SuperType → Checks
super_index_checks n es len None = []
super_index_checks n es len (Some t) = heap_checks n es len (super_heap t)

abbrev pub index_checks : ℕ → List Core_entry → ℕ → SubForm → Checks
index_checks n es len s = super_index_checks n es len s.supertype ++ form_checks n es len s.inner

-- ## Closed forms: ids of older types, and the positions of own ones

abbrev pub closed_index : Option Core_entry → ℕ → HeapType
closed_index (Some (sub_entry i)) k = heap.Id (record { index = i })
closed_index _ k = heap.Index k

abbrev pub closed_heap : List Core_entry → HeapType → HeapType
closed_heap es (heap.Index n) = closed_index (slice_get es n) (n - length es)
closed_heap es (heap.Abstract a) = heap.Abstract a
closed_heap es (heap.Id i) = heap.Id i

-- a reference to a type is shared where that type is, and has no mark of its own
abbrev pub closed_mark : HeapType → Bool → Bool
closed_mark (heap.Abstract a) mark = mark
closed_mark _ mark = false

abbrev pub closed_val : List Core_entry → ValType → ValType
closed_val es (val.Ref r) = val.Ref (record { nullable = r.nullable; shared = closed_mark r.heap r.shared; heap = closed_heap es r.heap })
closed_val es val.I32 = val.I32
closed_val es val.I64 = val.I64
closed_val es val.F32 = val.F32
closed_val es val.F64 = val.F64
closed_val es val.V128 = val.V128

abbrev pub closed_storage : List Core_entry → StorageType → StorageType
closed_storage es (storage.Val v) = storage.Val (closed_val es v)
closed_storage es storage.I8 = storage.I8
closed_storage es storage.I16 = storage.I16

abbrev pub closed_field : List Core_entry → FieldType → FieldType
closed_field es f = record { storage = closed_storage es f.storage; mutable = f.mutable }

abbrev pub closed_form : List Core_entry → CompositeForm → CompositeForm
closed_form es (func_form ps rs) = func_form (map (closed_val es) ps) (map (closed_val es) rs)
closed_form es (struct_form fs) = struct_form (map (closed_field es) fs)
closed_form es (array_form f) = array_form (closed_field es f)

abbrev pub heap_super : HeapType → Option SuperType
heap_super (heap.Index n) = Some (super.Index n)
heap_super (heap.Id i) = Some (super.Id i)
heap_super (heap.Abstract a) = None

abbrev pub closed_super : List Core_entry → Option SuperType → Option SuperType
closed_super es None = None
closed_super es (Some t) = heap_super (closed_heap es (super_heap t))

abbrev pub closed_sub : List Core_entry → SubForm → SubForm
closed_sub es s = record { is_final = s.is_final; supertype = closed_super es s.supertype; shared = s.shared; inner = closed_form es s.inner }

abbrev pub closed_group : List Core_entry → Group → Group
closed_group es w = map (closed_sub es) w
