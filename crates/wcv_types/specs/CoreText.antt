-- The text of core types. gs is the table of core types, and ks has the first ids of the groups that have a line, in order.
use Rattle.std.specs.Prelude.{ℕ, ◌-◌, List, [], ◌∷◌, ◌++◌, map, take, drop, nat_lt, Bool, not, cond, eqb, codes, Option, Some, None}
use Rattle.std.specs.Fmt.{decimal}
use Rattle.std.specs.List.{filter}
use Rattle.wcv_core.specs.CoreFeatures.{heap_word}
use Rattle.wcv_core.specs.CoreForm.{CompositeForm, func_form, struct_form, array_form, SubForm, Group}
use Rattle.wcv_core.specs.CoreGroups.{place_from, types_of}
use Rattle.wcv_core.specs.CoreIds.{heap_ids, val_ids, ids_in_group}
use Rattle.wcv_core.specs.declared.core_types.EntityType.{EntityType}
use Rattle.wcv_core.specs.declared.core_types.EntityType.TheVariants as entity
use Rattle.wcv_core.specs.declared.core_types.FieldType.{FieldType}
use Rattle.wcv_core.specs.declared.core_types.HeapType.{HeapType}
use Rattle.wcv_core.specs.declared.core_types.HeapType.TheVariants as heap
use Rattle.wcv_core.specs.declared.core_types.RefType.{RefType}
use Rattle.wcv_core.specs.declared.core_types.StorageType.{StorageType}
use Rattle.wcv_core.specs.declared.core_types.StorageType.TheVariants as storage
use Rattle.wcv_core.specs.declared.core_types.SuperType.{SuperType}
use Rattle.wcv_core.specs.declared.core_types.SuperType.TheVariants as super
use Rattle.wcv_core.specs.declared.core_types.ValType.{ValType}
use Rattle.wcv_core.specs.declared.core_types.ValType.TheVariants as val
use Rattle.wcv_types.specs.Positions.{position_of}
use Rattle.wcv_types.specs.Quoting.{listed}
use Rattle.wcv_types.specs.Tree.{Text}

-- ## Types

-- a type by its id: the number of its group's line, and its place in the group
abbrev pub core_type_text : List Group → List ℕ → ℕ → Text
core_type_text gs ks i = codes "g" ++ decimal (position_of eqb (place_from 0 gs i).0 ks) ++ codes "." ++ decimal (i - (place_from 0 gs i).0)

-- one of the own group by its place there
abbrev pub own_type_text : ℕ → Text
own_type_text k = codes "." ++ decimal k

abbrev pub heap_text : List Group → List ℕ → HeapType → Text
heap_text gs ks (heap.Abstract a) = heap_word a
heap_text gs ks (heap.Index k) = own_type_text k
heap_text gs ks (heap.Id i) = core_type_text gs ks i.index

-- a word, where that is so
abbrev pub mark_text : Bool → Text → Text
mark_text b word = cond b word []

abbrev pub ref_text : List Group → List ℕ → RefType → Text
ref_text gs ks r = codes "(ref " ++ mark_text r.nullable (codes "null ") ++ mark_text r.shared (codes "shared ") ++ heap_text gs ks r.heap ++ codes ")"

abbrev pub val_text : List Group → List ℕ → ValType → Text
val_text gs ks val.I32 = codes "i32"
val_text gs ks val.I64 = codes "i64"
val_text gs ks val.F32 = codes "f32"
val_text gs ks val.F64 = codes "f64"
val_text gs ks val.V128 = codes "v128"
val_text gs ks (val.Ref r) = ref_text gs ks r

abbrev pub storage_text : List Group → List ℕ → StorageType → Text
storage_text gs ks storage.I8 = codes "i8"
storage_text gs ks storage.I16 = codes "i16"
storage_text gs ks (storage.Val v) = val_text gs ks v

abbrev pub field_text : List Group → List ℕ → FieldType → Text
field_text gs ks f = mark_text f.mutable (codes "mut ") ++ storage_text gs ks f.storage

-- texts one after another, the first behind `before`, each further one behind a space
abbrev pub spaced : Text → List Text → Text
spaced before [] = []
spaced before (x ∷ xs) = before ++ x ++ spaced (codes " ") xs

abbrev pub composite_text : List Group → List ℕ → CompositeForm → Text
composite_text gs ks (func_form ps rs) =
    codes "func (" ++ spaced [] (map (val_text gs ks) ps) ++ codes ") -> (" ++ spaced [] (map (val_text gs ks) rs) ++ codes ")"
composite_text gs ks (struct_form fs) = codes "struct {" ++ listed [] (map (field_text gs ks) fs) ++ codes "}"
composite_text gs ks (array_form f) = codes "array " ++ field_text gs ks f

-- the type that a declared supertype is
abbrev pub super_type_text : List Group → List ℕ → SuperType → Text
super_type_text gs ks (super.Index k) = own_type_text k
super_type_text gs ks (super.Id i) = core_type_text gs ks i.index

-- the declared supertype behind its word, where there is one
abbrev pub super_text : List Group → List ℕ → Option SuperType → Text
super_text gs ks None = []
super_text gs ks (Some s) = codes "super " ++ super_type_text gs ks s ++ codes " "

abbrev pub sub_text : List Group → List ℕ → SubForm → Text
sub_text gs ks s = mark_text (not s.is_final) (codes "open ") ++ super_text gs ks s.supertype ++ mark_text s.shared (codes "shared ") ++ composite_text gs ks s.inner

abbrev pub group_text : List Group → List ℕ → Group → Text
group_text gs ks g = codes "rec {" ++ listed [] (map (sub_text gs ks) g) ++ codes "}"

-- ## Items

-- the greatest number, where there is one
abbrev pub greatest_text : Option ℕ → Text
greatest_text None = codes "-"
greatest_text (Some n) = decimal n

-- what a core module imports or exports
abbrev pub item_text : List Group → List ℕ → EntityType → Text
item_text gs ks (entity.Func t) = codes "func " ++ core_type_text gs ks t.index
item_text gs ks (entity.Tag t) = codes "tag " ++ core_type_text gs ks t.index
item_text gs ks (entity.Table t) =
    codes "table " ++ ref_text gs ks t.element_type ++ codes " " ++ decimal t.initial ++ codes " " ++ greatest_text t.maximum
    ++ mark_text t.table64 (codes " 64") ++ mark_text t.shared (codes " shared")
item_text gs ks (entity.Memory m) =
    codes "memory " ++ decimal m.initial ++ codes " " ++ greatest_text m.maximum ++ codes " page " ++ decimal m.page_size_log2
    ++ mark_text m.memory64 (codes " 64") ++ mark_text m.shared (codes " shared")
item_text gs ks (entity.Global g) = codes "global " ++ val_text gs ks g.content_type ++ mark_text g.mutable (codes " mut") ++ mark_text g.shared (codes " shared")

-- the types that it names, by their ids, in the order of the text
abbrev pub item_ids : EntityType → List ℕ
item_ids (entity.Func t) = t.index ∷ []
item_ids (entity.Tag t) = t.index ∷ []
item_ids (entity.Table t) = heap_ids t.element_type.heap
item_ids (entity.Memory m) = []
item_ids (entity.Global g) = val_ids g.content_type

-- ## Groups

-- the first id of the group that the type stands in
abbrev pub group_first : List Group → ℕ → ℕ
group_first gs i = (place_from 0 gs i).0

-- its types
abbrev pub group_at : List Group → ℕ → Group
group_at gs i = take (place_from 0 gs i).1 (drop (group_first gs i) (types_of gs))

-- the types of older groups that it names, in the order of the text
abbrev pub older_ids : List Group → ℕ → List ℕ
older_ids gs i = filter (λ j. nat_lt j (group_first gs i)) (ids_in_group (group_at gs i))
