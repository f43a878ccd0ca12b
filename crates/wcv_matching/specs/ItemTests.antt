-- Tests whether items match, by the ids of a table.
use Rattle.std.specs.Prelude.{ℕ, List, Bool, true, false, not, ◌&&◌, cond, eqb, nat_lt, Option, Some, None}
use Rattle.wcv_core.specs.CoreAbove.{is_declared}
use Rattle.wcv_core.specs.CoreForm.{Group}
use Rattle.wcv_core.specs.CoreMatching.{same_bool, same_name, val_matches}
use Rattle.wcv_core.specs.CoreWritten.{closed_mark}
use Rattle.wcv_core.specs.declared.core_types.EntityType.{EntityType}
use Rattle.wcv_core.specs.declared.core_types.EntityType.TheVariants as entity
use Rattle.wcv_core.specs.declared.core_types.GlobalType.{GlobalType}
use Rattle.wcv_core.specs.declared.core_types.HeapType.{HeapType}
use Rattle.wcv_core.specs.declared.core_types.HeapType.TheVariants as heap
use Rattle.wcv_core.specs.declared.core_types.MemoryType.{MemoryType}
use Rattle.wcv_core.specs.declared.core_types.RefType.{RefType}
use Rattle.wcv_core.specs.declared.core_types.TableType.{TableType}
use Rattle.wcv_core.specs.declared.core_types.ValType.{ValType}
use Rattle.wcv_core.specs.declared.core_types.ValType.TheVariants as val

-- ## Equality

abbrev pub same_heap : HeapType → HeapType → Bool
same_heap (heap.Id a) (heap.Id b) = eqb a.index b.index
same_heap (heap.Abstract x) (heap.Abstract y) = same_name x y
same_heap _ _ = false

-- the own mark of a reference to a type is not looked at
abbrev pub same_ref : RefType → RefType → Bool
same_ref q r = same_bool q.nullable r.nullable && (same_bool (closed_mark q.heap q.shared) (closed_mark r.heap r.shared) && same_heap q.heap r.heap)

abbrev pub same_val : ValType → ValType → Bool
same_val val.I32 val.I32 = true
same_val val.I64 val.I64 = true
same_val val.F32 val.F32 = true
same_val val.F64 val.F64 = true
same_val val.V128 val.V128 = true
same_val (val.Ref q) (val.Ref r) = same_ref q r
same_val _ _ = false

-- ## Limits

abbrev pub bound_within : Option ℕ → Option ℕ → Bool
bound_within m None = true
bound_within (Some m) (Some n) = not (nat_lt n m)
bound_within None (Some n) = false

abbrev pub limits_match : ℕ → Option ℕ → ℕ → Option ℕ → Bool
limits_match m x n y = not (nat_lt m n) && bound_within x y

-- ## Items

abbrev pub table_matches : TableType → TableType → Bool
table_matches a b =
    same_ref a.element_type b.element_type && (same_bool a.table64 b.table64 && (same_bool a.shared b.shared && limits_match a.initial a.maximum b.initial b.maximum))

abbrev pub memory_matches : MemoryType → MemoryType → Bool
memory_matches a b =
    same_bool a.memory64 b.memory64 && (same_bool a.shared b.shared && (eqb a.page_size_log2 b.page_size_log2 && limits_match a.initial a.maximum b.initial b.maximum))

abbrev pub content_matches : List Group → Bool → ValType → ValType → Bool
content_matches gs mutable v w = cond mutable (same_val v w) (val_matches gs v w)

abbrev pub global_matches : List Group → GlobalType → GlobalType → Bool
global_matches gs a b = same_bool a.mutable b.mutable && (same_bool a.shared b.shared && content_matches gs a.mutable a.content_type b.content_type)

abbrev pub item_matches : List Group → EntityType → EntityType → Bool
item_matches gs (entity.Func a) (entity.Func b) = is_declared gs a.index b.index
item_matches gs (entity.Tag a) (entity.Tag b) = eqb a.index b.index
item_matches gs (entity.Table a) (entity.Table b) = table_matches a b
item_matches gs (entity.Memory a) (entity.Memory b) = memory_matches a b
item_matches gs (entity.Global a) (entity.Global b) = global_matches gs a b
item_matches gs _ _ = false
