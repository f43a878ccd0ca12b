-- The code of a group of core types: numbers from which the group can be read again.
use Rattle.std.specs.Prelude.{ℕ, ◌+◌, ◌*◌, List, [], ◌∷◌, ◌++◌, length, Bool, true, false, Option, Some, None}
use Rattle.wcv_core.specs.declared.core_types.AbstractHeap.{AbstractHeap}
use Rattle.wcv_core.specs.declared.core_types.AbstractHeap.TheVariants as heap_name
use Rattle.wcv_core.specs.declared.core_types.FieldType.{FieldType}
use Rattle.wcv_core.specs.declared.core_types.HeapType.{HeapType}
use Rattle.wcv_core.specs.declared.core_types.HeapType.TheVariants as heap
use Rattle.wcv_core.specs.declared.core_types.RefType.{RefType}
use Rattle.wcv_core.specs.declared.core_types.StorageType.{StorageType}
use Rattle.wcv_core.specs.declared.core_types.StorageType.TheVariants as storage
use Rattle.wcv_core.specs.declared.core_types.SuperType.{SuperType}
use Rattle.wcv_core.specs.declared.core_types.SuperType.TheVariants as super
use Rattle.wcv_core.specs.declared.core_types.ValType.{ValType}
use Rattle.wcv_core.specs.declared.core_types.ValType.TheVariants as val
use Rattle.wcv_core.specs.CoreForm.{CompositeForm, func_form, struct_form, array_form, SubForm, Group}

-- the codes of the elements, one after the other
abbrev pub all_codes : {A : Type 0} → (A → List ℕ) → List A → List ℕ
all_codes f [] = []
all_codes f (x ∷ xs) = f x ++ all_codes f xs

abbrev pub bit : Bool → ℕ
bit false = 0
bit true = 1

abbrev pub abstract_number : AbstractHeap → ℕ
abstract_number heap_name.Func = 0
abstract_number heap_name.NoFunc = 1
abstract_number heap_name.Extern = 2
abstract_number heap_name.NoExtern = 3
abstract_number heap_name.Any = 4
abstract_number heap_name.Eq = 5
abstract_number heap_name.I31 = 6
abstract_number heap_name.Struct = 7
abstract_number heap_name.Array = 8
abstract_number heap_name.None = 9
abstract_number heap_name.Exn = 10
abstract_number heap_name.NoExn = 11

abbrev pub heap_kind : HeapType → ℕ
heap_kind (heap.Abstract a) = 0
heap_kind (heap.Index n) = 1
heap_kind (heap.Id i) = 2

abbrev pub heap_number : HeapType → ℕ
heap_number (heap.Abstract a) = abstract_number a
heap_number (heap.Index n) = n
heap_number (heap.Id i) = i.index

abbrev pub ref_mark : RefType → ℕ
ref_mark r = 5 + bit r.nullable + 2 * bit r.shared + 4 * heap_kind r.heap

abbrev pub val_code : ValType → List ℕ
val_code val.I32 = 0 ∷ []
val_code val.I64 = 1 ∷ []
val_code val.F32 = 2 ∷ []
val_code val.F64 = 3 ∷ []
val_code val.V128 = 4 ∷ []
val_code (val.Ref r) = ref_mark r ∷ heap_number r.heap ∷ []

abbrev pub vals_code : List ValType → List ℕ
vals_code xs = all_codes val_code xs

abbrev pub storage_kind : StorageType → ℕ
storage_kind storage.I8 = 0
storage_kind storage.I16 = 1
storage_kind (storage.Val v) = 2

abbrev pub storage_rest : StorageType → List ℕ
storage_rest storage.I8 = []
storage_rest storage.I16 = []
storage_rest (storage.Val v) = val_code v

abbrev pub field_code : FieldType → List ℕ
field_code f = (bit f.mutable + 2 * storage_kind f.storage) ∷ storage_rest f.storage

abbrev pub fields_code : List FieldType → List ℕ
fields_code xs = all_codes field_code xs

abbrev pub composite_code : CompositeForm → List ℕ
composite_code (func_form ps rs) = 0 ∷ length ps ∷ length rs ∷ (vals_code ps ++ vals_code rs)
composite_code (struct_form fs) = 1 ∷ length fs ∷ fields_code fs
composite_code (array_form f) = 2 ∷ field_code f

abbrev pub super_kind : Option SuperType → ℕ
super_kind None = 0
super_kind (Some (super.Index n)) = 1
super_kind (Some (super.Id i)) = 2

abbrev pub super_number : Option SuperType → ℕ
super_number None = 0
super_number (Some (super.Index n)) = n
super_number (Some (super.Id i)) = i.index

abbrev pub sub_mark : SubForm → ℕ
sub_mark s = bit s.is_final + 2 * bit s.shared + 4 * super_kind s.supertype

abbrev pub sub_code : SubForm → List ℕ
sub_code s = sub_mark s ∷ super_number s.supertype ∷ composite_code s.inner

-- the code of a group
abbrev pub code_of : Group → List ℕ
code_of xs = all_codes sub_code xs
