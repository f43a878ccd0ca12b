-- The ids of core types that a group names, in the order in which they are written: the supertype's first.
use Rattle.std.specs.Prelude.{ℕ, ◌<◌, List, [], ◌∷◌, ◌++◌, Option, Some}
use Rattle.std.specs.List.{All}
use Rattle.wcv_core.specs.CoreForm.{CompositeForm, func_form, struct_form, array_form, SubForm, Group}
use Rattle.wcv_core.specs.declared.core_types.FieldType.{FieldType}
use Rattle.wcv_core.specs.declared.core_types.HeapType.{HeapType}
use Rattle.wcv_core.specs.declared.core_types.HeapType.TheVariants as heap
use Rattle.wcv_core.specs.declared.core_types.StorageType.{StorageType}
use Rattle.wcv_core.specs.declared.core_types.StorageType.TheVariants as storage
use Rattle.wcv_core.specs.declared.core_types.SuperType.{SuperType}
use Rattle.wcv_core.specs.declared.core_types.SuperType.TheVariants as super
use Rattle.wcv_core.specs.declared.core_types.ValType.{ValType}
use Rattle.wcv_core.specs.declared.core_types.ValType.TheVariants as val

-- those of the elements, one after the other
abbrev pub all_ids : {A : Type 0} → (A → List ℕ) → List A → List ℕ
all_ids f [] = []
all_ids f (x ∷ xs) = f x ++ all_ids f xs

abbrev pub heap_ids : HeapType → List ℕ
heap_ids (heap.Id i) = i.index ∷ []
heap_ids _ = []

abbrev pub val_ids : ValType → List ℕ
val_ids (val.Ref r) = heap_ids r.heap
val_ids _ = []

abbrev pub storage_ids : StorageType → List ℕ
storage_ids (storage.Val v) = val_ids v
storage_ids _ = []

abbrev pub field_ids : FieldType → List ℕ
field_ids f = storage_ids f.storage

abbrev pub composite_ids : CompositeForm → List ℕ
composite_ids (func_form ps rs) = all_ids val_ids ps ++ all_ids val_ids rs
composite_ids (struct_form fs) = all_ids field_ids fs
composite_ids (array_form f) = field_ids f

abbrev pub super_ids : Option SuperType → List ℕ
super_ids (Some (super.Id i)) = i.index ∷ []
super_ids _ = []

abbrev pub sub_ids : SubForm → List ℕ
sub_ids s = super_ids s.supertype ++ composite_ids s.inner

abbrev pub ids_in_group : Group → List ℕ
ids_in_group g = all_ids sub_ids g

-- each id is that of a type of an older group, where the group's first type is to have the id n
abbrev pub NamesOlder : ℕ → Group → Type 0
NamesOlder n g = All (λ i. i < n) (ids_in_group g)
