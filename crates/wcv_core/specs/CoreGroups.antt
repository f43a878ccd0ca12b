-- Groups in the order in which they came, and the ids of their types.
use Rattle.std.specs.Prelude.{ℕ, ◌+◌, ◌<◌, List, [], ◌∷◌, ◌++◌, length, map, Bool, cond, Option, Some, None, IfSome, get_or, nat_lt}
use Rattle.std.specs.Str.{bytes_eq}
use Rattle.std.specs.List.{All}
use Rattle.wcv_core.specs.declared.core_types.FieldType.{FieldType}
use Rattle.wcv_core.specs.declared.core_types.HeapType.{HeapType}
use Rattle.wcv_core.specs.declared.core_types.HeapType.TheVariants as heap
use Rattle.wcv_core.specs.declared.core_types.StorageType.{StorageType}
use Rattle.wcv_core.specs.declared.core_types.StorageType.TheVariants as storage
use Rattle.wcv_core.specs.declared.core_types.SuperType.{SuperType}
use Rattle.wcv_core.specs.declared.core_types.SuperType.TheVariants as super
use Rattle.wcv_core.specs.declared.core_types.ValType.{ValType}
use Rattle.wcv_core.specs.declared.core_types.ValType.TheVariants as val
use Rattle.wcv_core.specs.CoreForm.{CompositeForm, func_form, struct_form, array_form, SubForm, Group}
use Rattle.wcv_core.specs.CoreCode.{code_of}
use Rattle.wcv_core.specs.CoreIds.{NamesOlder}

-- how many types there are
abbrev pub total : List Group → ℕ
total [] = 0
total (g ∷ gs) = length g + total gs

-- all types, by their ids
abbrev pub types_of : List Group → List SubForm
types_of [] = []
types_of (g ∷ gs) = g ++ types_of gs

-- two groups are one
abbrev pub same_group : Group → Group → Bool
same_group g h = bytes_eq (code_of g) (code_of h)

-- the id of the first type of the group with this code, where ids begin at n
abbrev pub id_from : ℕ → List Group → List ℕ → Option ℕ
id_from n [] c = None
id_from n (g ∷ gs) c = cond (bytes_eq c (code_of g)) (Some n) (id_from (n + length g) gs c)

-- the id of the group's first type, if the group is there
abbrev pub id_of : List Group → Group → Option ℕ
id_of gs g = id_from 0 gs (code_of g)

-- the first id and the length of the group that a type stands in
abbrev pub place_from : ℕ → List Group → ℕ → ℕ × ℕ
place_from n [] i = (n, 0)
place_from n (g ∷ gs) i = cond (nat_lt i (n + length g)) (n, length g) (place_from (n + length g) gs i)

-- the id of the declared supertype, in a group whose first id is n
abbrev pub parent_id : ℕ → Option SuperType → Option ℕ
parent_id n None = None
parent_id n (Some (super.Index k)) = Some (n + k)
parent_id n (Some (super.Id i)) = Some i.index

abbrev pub parent_in : ℕ → SubForm → Option ℕ
parent_in n s = parent_id n s.supertype

-- the ids of the declared supertypes of all types
abbrev pub parents_from : ℕ → List Group → List (Option ℕ)
parents_from n [] = []
parents_from n (g ∷ gs) = map (parent_in n) g ++ parents_from (n + length g) gs

-- each declared supertype stands before its type; the first type here has the id i
abbrev pub AreOrdered : ℕ → ℕ → Group → Type 0
AreOrdered n i [] = Unit {0}
AreOrdered n i (s ∷ ss) = IfSome (parent_in n s) (λ p. p < i) × AreOrdered n (i + 1) ss

-- references name types of a group of this length, or types before id n
abbrev pub IsHeapWithin : ℕ → ℕ → HeapType → Type 0
IsHeapWithin n len (heap.Abstract a) = Unit {0}
IsHeapWithin n len (heap.Index k) = k < len
IsHeapWithin n len (heap.Id i) = i.index < n

abbrev pub IsValWithin : ℕ → ℕ → ValType → Type 0
IsValWithin n len (val.Ref r) = IsHeapWithin n len r.heap
IsValWithin n len _ = Unit {0}

abbrev pub IsStorageWithin : ℕ → ℕ → StorageType → Type 0
IsStorageWithin n len (storage.Val v) = IsValWithin n len v
IsStorageWithin n len _ = Unit {0}

abbrev pub IsFieldWithin : ℕ → ℕ → FieldType → Type 0
IsFieldWithin n len f = IsStorageWithin n len f.storage

abbrev pub IsFormWithin : ℕ → ℕ → CompositeForm → Type 0
IsFormWithin n len (func_form ps rs) = All (IsValWithin n len) ps × All (IsValWithin n len) rs
IsFormWithin n len (struct_form fs) = All (IsFieldWithin n len) fs
IsFormWithin n len (array_form f) = IsFieldWithin n len f

-- a closed form whose first type is to have the id n. It names own types by positions, and older types alone by ids
pub record IsClosed (n : ℕ) (g : Group) : Type 0 where
  pub some : 0 < length g
  pub older : NamesOlder n g
  pub ordered : AreOrdered n n g
  pub within : All (λ (s : SubForm). IsFormWithin n (length g) s.inner) g

abbrev pub AreClosed : ℕ → List Group → Type 0
AreClosed n [] = Unit {0}
AreClosed n (g ∷ gs) = IsClosed n g × AreClosed (n + length g) gs

-- ## Depths

-- how many declared supertypes stand above a type with this parent, given those of the types before it
abbrev pub depth_after : List ℕ → Option ℕ → ℕ
depth_after ds None = 0
depth_after ds (Some p) = get_or ds p 0 + 1

abbrev pub add_depths : List ℕ → List (Option ℕ) → List ℕ
add_depths ds [] = ds
add_depths ds (p ∷ ps) = add_depths (ds ++ depth_after ds p ∷ []) ps

-- how many declared supertypes stand above each type
abbrev pub depths_of : List Group → List ℕ
depths_of gs = add_depths [] (parents_from 0 gs)
