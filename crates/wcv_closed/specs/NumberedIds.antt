-- Groups of core types with numbers, or with other ids, in place of the ids that they name.
use Rattle.std.specs.Prelude.{ℕ, ◌+◌, List, [], ◌∷◌, length, map, Option, Some, None}
use Rattle.wcv_core.specs.CoreForm.{CompositeForm, func_form, struct_form, array_form, SubForm, Group}
use Rattle.wcv_core.specs.CoreIds.{all_ids, val_ids, field_ids, super_ids, sub_ids}
use Rattle.wcv_core.specs.declared.core_types.FieldType.{FieldType}
use Rattle.wcv_core.specs.declared.core_types.HeapType.{HeapType}
use Rattle.wcv_core.specs.declared.core_types.HeapType.TheVariants as heap
use Rattle.wcv_core.specs.declared.core_types.StorageType.{StorageType}
use Rattle.wcv_core.specs.declared.core_types.StorageType.TheVariants as storage
use Rattle.wcv_core.specs.declared.core_types.SuperType.{SuperType}
use Rattle.wcv_core.specs.declared.core_types.SuperType.TheVariants as super
use Rattle.wcv_core.specs.declared.core_types.ValType.{ValType}
use Rattle.wcv_core.specs.declared.core_types.ValType.TheVariants as val

-- ## Numbers in place of ids: the first has the number n, and each further one the next, also where an id comes again

abbrev pub numbered_heap : ℕ → HeapType → HeapType
numbered_heap n (heap.Abstract a) = heap.Abstract a
numbered_heap n (heap.Index k) = heap.Index k
numbered_heap n (heap.Id i) = heap.Id (record { index = n })

abbrev pub numbered_val : ℕ → ValType → ValType
numbered_val n (val.Ref r) = val.Ref (record { nullable = r.nullable; shared = r.shared; heap = numbered_heap n r.heap })
numbered_val n val.I32 = val.I32
numbered_val n val.I64 = val.I64
numbered_val n val.F32 = val.F32
numbered_val n val.F64 = val.F64
numbered_val n val.V128 = val.V128

abbrev pub numbered_storage : ℕ → StorageType → StorageType
numbered_storage n (storage.Val v) = storage.Val (numbered_val n v)
numbered_storage n storage.I8 = storage.I8
numbered_storage n storage.I16 = storage.I16

abbrev pub numbered_field : ℕ → FieldType → FieldType
numbered_field n f = record { storage = numbered_storage n f.storage; mutable = f.mutable }

abbrev pub numbered_each : {A : Type 0} → (A → List ℕ) → (ℕ → A → A) → ℕ → List A → List A
numbered_each ids numbered n [] = []
numbered_each ids numbered n (x ∷ xs) = numbered n x ∷ numbered_each ids numbered (n + length (ids x)) xs

abbrev pub numbered_form : ℕ → CompositeForm → CompositeForm
numbered_form n (func_form ps rs) = func_form (numbered_each val_ids numbered_val n ps) (numbered_each val_ids numbered_val (n + length (all_ids val_ids ps)) rs)
numbered_form n (struct_form fs) = struct_form (numbered_each field_ids numbered_field n fs)
numbered_form n (array_form f) = array_form (numbered_field n f)

abbrev pub numbered_super : ℕ → Option SuperType → Option SuperType
numbered_super n None = None
numbered_super n (Some (super.Index k)) = Some (super.Index k)
numbered_super n (Some (super.Id i)) = Some (super.Id (record { index = n }))

abbrev pub numbered_sub : ℕ → SubForm → SubForm
numbered_sub n s = record { is_final = s.is_final; supertype = numbered_super n s.supertype; shared = s.shared; inner = numbered_form (n + length (super_ids s.supertype)) s.inner }

abbrev pub numbered_from : ℕ → Group → Group
numbered_from n g = numbered_each sub_ids numbered_sub n g

-- ## Other ids in place of ids

abbrev pub moved_heap : (ℕ → ℕ) → HeapType → HeapType
moved_heap f (heap.Abstract a) = heap.Abstract a
moved_heap f (heap.Index k) = heap.Index k
moved_heap f (heap.Id i) = heap.Id (record { index = f i.index })

abbrev pub moved_val : (ℕ → ℕ) → ValType → ValType
moved_val f (val.Ref r) = val.Ref (record { nullable = r.nullable; shared = r.shared; heap = moved_heap f r.heap })
moved_val f val.I32 = val.I32
moved_val f val.I64 = val.I64
moved_val f val.F32 = val.F32
moved_val f val.F64 = val.F64
moved_val f val.V128 = val.V128

abbrev pub moved_storage : (ℕ → ℕ) → StorageType → StorageType
moved_storage f (storage.Val v) = storage.Val (moved_val f v)
moved_storage f storage.I8 = storage.I8
moved_storage f storage.I16 = storage.I16

abbrev pub moved_field : (ℕ → ℕ) → FieldType → FieldType
moved_field f x = record { storage = moved_storage f x.storage; mutable = x.mutable }

abbrev pub moved_form : (ℕ → ℕ) → CompositeForm → CompositeForm
moved_form f (func_form ps rs) = func_form (map (moved_val f) ps) (map (moved_val f) rs)
moved_form f (struct_form fs) = struct_form (map (moved_field f) fs)
moved_form f (array_form x) = array_form (moved_field f x)

abbrev pub moved_super : (ℕ → ℕ) → Option SuperType → Option SuperType
moved_super f None = None
moved_super f (Some (super.Index k)) = Some (super.Index k)
moved_super f (Some (super.Id i)) = Some (super.Id (record { index = f i.index }))

abbrev pub moved_sub : (ℕ → ℕ) → SubForm → SubForm
moved_sub f s = record { is_final = s.is_final; supertype = moved_super f s.supertype; shared = s.shared; inner = moved_form f s.inner }

-- the group with f i for each id i
abbrev pub moved_group : (ℕ → ℕ) → Group → Group
moved_group f g = map (moved_sub f) g
