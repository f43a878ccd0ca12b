-- Matching of heaps and value types, over the groups of a table. Types are named by ids.
use Rattle.std.specs.Prelude.{ℕ, List, Bool, true, false, ◌&&◌, ◌||◌, not, cond, eqb, get_or}
use Rattle.wcv_core.specs.declared.core_types.AbstractHeap.{AbstractHeap}
use Rattle.wcv_core.specs.declared.core_types.AbstractHeap.TheVariants as name
use Rattle.wcv_core.specs.declared.core_types.HeapType.{HeapType}
use Rattle.wcv_core.specs.declared.core_types.HeapType.TheVariants as heap
use Rattle.wcv_core.specs.declared.core_types.RefType.{RefType}
use Rattle.wcv_core.specs.declared.core_types.ValType.{ValType}
use Rattle.wcv_core.specs.declared.core_types.ValType.TheVariants as val
use Rattle.wcv_core.specs.CoreForm.{CompositeForm, func_form, struct_form, array_form, SubForm, Group, no_type}
use Rattle.wcv_core.specs.CoreCode.{abstract_number}
use Rattle.wcv_core.specs.CoreGroups.{types_of}
use Rattle.wcv_core.specs.CoreAbove.{is_declared}

-- the heap named by a word that the type's form matches
abbrev pub form_heap : CompositeForm → AbstractHeap
form_heap (func_form ps rs) = name.Func
form_heap (struct_form fs) = name.Struct
form_heap (array_form f) = name.Array

abbrev pub type_at : List Group → ℕ → SubForm
type_at gs i = get_or (types_of gs) i no_type

-- whether the first stands below `any`, or is it
abbrev pub in_any : AbstractHeap → Bool
in_any name.Any = true
in_any name.Eq = true
in_any name.I31 = true
in_any name.Struct = true
in_any name.Array = true
in_any name.None = true
in_any _ = false

abbrev pub in_eq : AbstractHeap → Bool
in_eq name.Eq = true
in_eq name.I31 = true
in_eq name.Struct = true
in_eq name.Array = true
in_eq name.None = true
in_eq _ = false

abbrev pub is_none : AbstractHeap → Bool
is_none name.None = true
is_none _ = false

abbrev pub same_name : AbstractHeap → AbstractHeap → Bool
same_name a b = eqb (abstract_number a) (abstract_number b)

-- heaps named by words: each matches itself, and those that the second stands above
abbrev pub name_matches : AbstractHeap → AbstractHeap → Bool
name_matches a name.Any = in_any a
name_matches a name.Eq = in_eq a
name_matches a name.I31 = same_name a name.I31 || is_none a
name_matches a name.Struct = same_name a name.Struct || is_none a
name_matches a name.Array = same_name a name.Array || is_none a
name_matches a name.Func = same_name a name.Func || same_name a name.NoFunc
name_matches a name.Extern = same_name a name.Extern || same_name a name.NoExtern
name_matches a name.Exn = same_name a name.Exn || same_name a name.NoExn
name_matches a b = same_name a b

-- the heap that stands below all types of this form
abbrev pub bottom_of : CompositeForm → AbstractHeap
bottom_of (func_form ps rs) = name.NoFunc
bottom_of (struct_form fs) = name.None
bottom_of (array_form f) = name.None

abbrev pub heap_matches : List Group → HeapType → HeapType → Bool
heap_matches gs (heap.Id a) (heap.Id b) = is_declared gs a.index b.index
heap_matches gs (heap.Id a) (heap.Abstract y) = name_matches (form_heap (type_at gs a.index).inner) y
heap_matches gs (heap.Abstract x) (heap.Id b) = same_name x (bottom_of (type_at gs b.index).inner)
heap_matches gs (heap.Abstract x) (heap.Abstract y) = name_matches x y
heap_matches gs _ _ = false

-- whether a reference is shared: by the type that it names, or by its own mark
abbrev pub shared_by : List Group → HeapType → Bool → Bool
shared_by gs (heap.Id a) mark = (type_at gs a.index).shared
shared_by gs _ mark = mark

abbrev pub ref_shared : List Group → RefType → Bool
ref_shared gs r = shared_by gs r.heap r.shared

abbrev pub same_bool : Bool → Bool → Bool
same_bool a b = cond a b (not b)

abbrev pub ref_matches : List Group → RefType → RefType → Bool
ref_matches gs q r = (not q.nullable || r.nullable) && (same_bool (ref_shared gs q) (ref_shared gs r) && heap_matches gs q.heap r.heap)

abbrev pub val_matches : List Group → ValType → ValType → Bool
val_matches gs val.I32 val.I32 = true
val_matches gs val.I64 val.I64 = true
val_matches gs val.F32 val.F32 = true
val_matches gs val.F64 val.F64 = true
val_matches gs val.V128 val.V128 = true
val_matches gs (val.Ref q) (val.Ref r) = ref_matches gs q r
val_matches gs _ _ = false
