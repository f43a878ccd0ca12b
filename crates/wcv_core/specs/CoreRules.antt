-- Rules over a table that has the group. Types are named by ids.
use Rattle.wcv_core.specs.Limits.{max_supertypes}
use Rattle.std.specs.Prelude.{ℕ, ◌+◌, List, [], ◌∷◌, map, Bool, true, false, ◌&&◌, ◌||◌, not, eqb, nat_lt, Option, None, Some, get_or}
use Rattle.std.specs.List.{list_all}
use Rattle.std.specs.Str.{bytes_eq}
use Rattle.wcv_core.specs.Checks.{Checks}
use Rattle.wcv_core.specs.CoreCode.{storage_kind, storage_rest}
use Rattle.wcv_core.specs.CoreForm.{CompositeForm, func_form, struct_form, array_form, Group}
use Rattle.wcv_core.specs.CoreGroups.{place_from, parents_from, depths_of}
use Rattle.wcv_core.specs.CoreMatching.{type_at, same_bool, ref_shared, val_matches}
use Rattle.wcv_core.specs.CoreWritten.{closed_mark}
use Rattle.wcv_core.specs.declared.core_types.FieldType.{FieldType}
use Rattle.wcv_core.specs.declared.core_types.HeapType.{HeapType}
use Rattle.wcv_core.specs.declared.core_types.HeapType.TheVariants as heap
use Rattle.wcv_core.specs.declared.core_types.RefType.{RefType}
use Rattle.wcv_core.specs.declared.core_types.StorageType.{StorageType}
use Rattle.wcv_core.specs.declared.core_types.StorageType.TheVariants as storage
use Rattle.wcv_core.specs.declared.core_types.ValType.{ValType}
use Rattle.wcv_core.specs.declared.core_types.ValType.TheVariants as val
use Rattle.wcv_core.specs.declared.error.ErrorKind.TheVariants as kind

-- ## Ids in place of positions in the group whose first id is n

abbrev pub id_heap : ℕ → HeapType → HeapType
id_heap n (heap.Index k) = heap.Id (record { index = n + k })
id_heap n (heap.Abstract a) = heap.Abstract a
id_heap n (heap.Id i) = heap.Id i

abbrev pub id_ref : ℕ → RefType → RefType
id_ref n r = record { nullable = r.nullable; shared = closed_mark r.heap r.shared; heap = id_heap n r.heap }

abbrev pub id_val : ℕ → ValType → ValType
id_val n (val.Ref r) = val.Ref (id_ref n r)
id_val n val.I32 = val.I32
id_val n val.I64 = val.I64
id_val n val.F32 = val.F32
id_val n val.F64 = val.F64
id_val n val.V128 = val.V128

abbrev pub id_storage : ℕ → StorageType → StorageType
id_storage n (storage.Val v) = storage.Val (id_val n v)
id_storage n storage.I8 = storage.I8
id_storage n storage.I16 = storage.I16

abbrev pub id_field : ℕ → FieldType → FieldType
id_field n f = record { storage = id_storage n f.storage; mutable = f.mutable }

abbrev pub id_form : ℕ → CompositeForm → CompositeForm
id_form n (func_form ps rs) = func_form (map (id_val n) ps) (map (id_val n) rs)
id_form n (struct_form fs) = struct_form (map (id_field n) fs)
id_form n (array_form f) = array_form (id_field n f)

-- the form of a type of the table
abbrev pub form_at : List Group → ℕ → CompositeForm
form_at gs i = id_form (place_from 0 gs i).0 (type_at gs i).inner

-- ## Forms match

abbrev pub same_storage : StorageType → StorageType → Bool
same_storage a b = eqb (storage_kind a) (storage_kind b) && bytes_eq (storage_rest a) (storage_rest b)

abbrev pub storage_matches : List Group → StorageType → StorageType → Bool
storage_matches gs (storage.Val v) (storage.Val w) = val_matches gs v w
storage_matches gs storage.I8 storage.I8 = true
storage_matches gs storage.I16 storage.I16 = true
storage_matches gs _ _ = false

-- a mutable field matches one of the same type alone
abbrev pub field_matches : List Group → FieldType → FieldType → Bool
field_matches gs f g = same_bool f.mutable g.mutable && (same_storage f.storage g.storage || (not f.mutable && storage_matches gs f.storage g.storage))

-- lists of one length whose elements match one another
abbrev pub each_matches : {A : Type 0} → (A → A → Bool) → List A → List A → Bool
each_matches p [] [] = true
each_matches p (x ∷ xs) (y ∷ ys) = p x y && each_matches p xs ys
each_matches p _ _ = false

-- the front of the first list matches the second
abbrev pub front_matches : {A : Type 0} → (A → A → Bool) → List A → List A → Bool
front_matches p xs [] = true
front_matches p [] (y ∷ ys) = false
front_matches p (x ∷ xs) (y ∷ ys) = p x y && front_matches p xs ys

-- parameters match the other way round, and a struct may have more fields
abbrev pub form_matches : List Group → CompositeForm → CompositeForm → Bool
form_matches gs (func_form ps rs) (func_form qs ts) = each_matches (val_matches gs) qs ps && each_matches (val_matches gs) rs ts
form_matches gs (struct_form fs) (struct_form hs) = front_matches (field_matches gs) fs hs
form_matches gs (array_form f) (array_form g) = field_matches gs f g
form_matches gs _ _ = false

-- ## Shared types hold no reference that is not shared

abbrev pub val_shared : List Group → ValType → Bool
val_shared gs (val.Ref r) = ref_shared gs r
val_shared gs _ = true

abbrev pub storage_shared : List Group → StorageType → Bool
storage_shared gs (storage.Val v) = val_shared gs v
storage_shared gs _ = true

abbrev pub field_shared : List Group → FieldType → Bool
field_shared gs f = storage_shared gs f.storage

abbrev pub form_shared : List Group → CompositeForm → Bool
form_shared gs (func_form ps rs) = list_all (val_shared gs) ps && list_all (val_shared gs) rs
form_shared gs (struct_form fs) = list_all (field_shared gs) fs
form_shared gs (array_form f) = field_shared gs f

-- ## Each type of the table

-- a type with this declared supertype
abbrev pub super_checks : List Group → ℕ → Option ℕ → Checks
super_checks gs i None = []
super_checks gs i (Some p) =
    (kind.CoreType, (type_at gs p).is_final) ∷ (kind.CoreType, not (same_bool (type_at gs i).shared (type_at gs p).shared))
    ∷ (kind.CoreType, not (form_matches gs (form_at gs i) (form_at gs p))) ∷ (kind.Limit, nat_lt max_supertypes (get_or (depths_of gs) i 0)) ∷ []

abbrev pub type_checks : List Group → ℕ → Checks
type_checks gs i = (kind.CoreType, (type_at gs i).shared && not (form_shared gs (form_at gs i))) ∷ super_checks gs i (get_or (parents_from 0 gs) i None)
