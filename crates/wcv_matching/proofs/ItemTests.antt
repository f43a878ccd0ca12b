-- The tests by ids decide whether items match.
use Rattle.std.proofs.Common.{◌≡◌, ℕ, ◌≤◌, List, Bool, true, false, not, ◌&&◌, eqb, eq-eqb, Option, Some, None, refl, ap, arith, nat_lt}
use Rattle.std.proofs.lemmas.Bool.{eqb-true}
use Rattle.std.proofs.lemmas.Bool.Decides.{nat_tests}
use Rattle.wcv_core.specs.CoreForm.{Group}
use Rattle.wcv_core.specs.CoreGroups.{total, IsHeapWithin, IsValWithin}
use Rattle.wcv_core.specs.CoreMatching.{same_bool}
use Rattle.wcv_core.specs.CoreSizes.{IsEntityWithin}
use Rattle.wcv_core.specs.CoreWritten.{closed_mark}
use Rattle.wcv_core.specs.declared.core_types.AbstractHeap.{AbstractHeap}
use Rattle.wcv_core.specs.declared.core_types.EntityType.{EntityType}
use Rattle.wcv_core.specs.declared.core_types.EntityType.TheVariants as entity
use Rattle.wcv_core.specs.declared.core_types.GlobalType.{GlobalType}
use Rattle.wcv_core.specs.declared.core_types.HeapType.{HeapType}
use Rattle.wcv_core.specs.declared.core_types.HeapType.TheVariants as heap
use Rattle.wcv_core.specs.declared.core_types.MemoryType.{MemoryType}
use Rattle.wcv_core.specs.declared.core_types.RefType.{RefType}
use Rattle.wcv_core.specs.declared.core_types.TableType.{TableType}
use Rattle.wcv_core.specs.declared.core_types.ValType.{ValType}
use Rattle.wcv_core.specs.declared.core_types.ValType.TheVariants as val
use Rattle.wcv_core.proofs.Comparing.{names_told}
use Rattle.wcv_core.proofs.Names.{and_left, and_right}
use Rattle.wcv_closed.specs.ClosedItems.{RefEqual, ValEqual, IsBoundWithin, LimitsMatch, MemoryMatches, ContentMatches, ItemMatches}
use Rattle.wcv_closed.specs.ClosedMatching.{is_shared, shared_mark}
use Rattle.wcv_closed.specs.ClosedTable.{IsTable}
use Rattle.wcv_closed.specs.ClosedType.{Closed, closed}
use Rattle.wcv_closed.specs.ClosedValue.{Heap, word, to_type, closed_heap, closed_ref, closed_val, closed_item}
use Rattle.wcv_closed.proofs.Declared.{declared_below, below_declared}
use Rattle.wcv_closed.proofs.MatchingIds.{same_bool-true, same_bool-equal, both, val_to, val_from}
use Rattle.wcv_closed.proofs.Unfolding.{told}
use Rattle.wcv_matching.specs.ItemTables.{AnyTableMatches}
use Rattle.wcv_matching.specs.ItemTests.{same_heap, same_ref, same_val, bound_within, limits_match, table_matches, memory_matches, content_matches, global_matches, item_matches}

-- ## Limits

not_below : (m n : ℕ) → not (nat_lt m n) ≡ true → n ≤ m
not_below m n e = grind (arith, nat_tests)

is_not_below : (m n : ℕ) → n ≤ m → not (nat_lt m n) ≡ true
is_not_below m n e = grind (arith, nat_tests)

bound_to : (x y : Option ℕ) → bound_within x y ≡ true → IsBoundWithin x y
bound_to x None e = tt
bound_to (Some m) (Some n) e = not_below n m e
bound_to None (Some n) e = cc

bound_from : (x y : Option ℕ) → IsBoundWithin x y → bound_within x y ≡ true
bound_from x None b = refl
bound_from (Some m) (Some n) b = is_not_below n m b
bound_from None (Some n) b = elim b [ ]

limits_to : (m n : ℕ) (x y : Option ℕ) → limits_match m x n y ≡ true → LimitsMatch m x n y
limits_to m n x y e = record { least = not_below m n (and_left (not (nat_lt m n)) (bound_within x y) e); greatest = bound_to x y (and_right (not (nat_lt m n)) (bound_within x y) e) }

limits_from : (m n : ℕ) (x y : Option ℕ) → LimitsMatch m x n y → limits_match m x n y ≡ true
limits_from m n x y l = both (not (nat_lt m n)) (bound_within x y) (is_not_below m n l.least) (bound_from x y l.greatest)

-- ## Memories

pub memory_to : (a b : MemoryType) → memory_matches a b ≡ true → MemoryMatches a b
memory_to a b e =
    let w = same_bool a.memory64 b.memory64 in
    let s = same_bool a.shared b.shared in
    let p = eqb a.page_size_log2 b.page_size_log2 in
    let l = limits_match a.initial a.maximum b.initial b.maximum in
    let e1 : (s && (p && l)) ≡ true = and_right w (s && (p && l)) e in
    let e2 : (p && l) ≡ true = and_right s (p && l) e1 in
    record {
      wide = same_bool-true a.memory64 b.memory64 (and_left w (s && (p && l)) e);
      shared = same_bool-true a.shared b.shared (and_left s (p && l) e1);
      pages = eqb-true a.page_size_log2 b.page_size_log2 (and_left p l e2);
      limits = limits_to a.initial b.initial a.maximum b.maximum (and_right p l e2);
    }

pub memory_from : (a b : MemoryType) → MemoryMatches a b → memory_matches a b ≡ true
memory_from a b m =
    let w = same_bool a.memory64 b.memory64 in
    let s = same_bool a.shared b.shared in
    let p = eqb a.page_size_log2 b.page_size_log2 in
    let l = limits_match a.initial a.maximum b.initial b.maximum in
    both w (s && (p && l)) (same_bool-equal a.memory64 b.memory64 m.wide)
    (both s (p && l) (same_bool-equal a.shared b.shared m.shared)
    (both p l (eq-eqb a.page_size_log2 b.page_size_log2 m.pages) (limits_from a.initial b.initial a.maximum b.maximum m.limits)))

-- ## Over a table

same_types : (c d : Closed) → to_type c ≡ to_type d → c ≡ d
same_types c d e = cc

abbrev a_word : AbstractHeap → Heap Closed
a_word x = word x

same_words : (x y : AbstractHeap) → a_word x ≡ a_word y → x ≡ y
same_words x y e = cc

module _ (gs : List Group) where
  heap_to : (h k : HeapType) → same_heap h k ≡ true → closed_heap gs h ≡ closed_heap gs k
  heap_to (heap.Id i) (heap.Id j) e = ap (λ (n : ℕ). to_type (closed gs n)) (eqb-true i.index j.index e)
  heap_to (heap.Abstract x) (heap.Abstract y) e = ap (λ (z : AbstractHeap). word z) ((names_told x y).0 e)
  heap_to _ _ e = cc

  mark_to : (h k : HeapType) (m n : Bool) → same_heap h k ≡ true → closed_mark h m ≡ closed_mark k n → shared_mark (closed_heap gs h) m ≡ shared_mark (closed_heap gs k) n
  mark_to (heap.Id i) (heap.Id j) m n e f = ap (λ (l : ℕ). is_shared (closed gs l)) (eqb-true i.index j.index e)
  mark_to (heap.Abstract x) (heap.Abstract y) m n e f = f
  mark_to _ _ m n e f = cc

  ref_to : (q r : RefType) → same_ref q r ≡ true → RefEqual (closed_ref gs q) (closed_ref gs r)
  ref_to q r e =
      let n = same_bool q.nullable r.nullable in
      let m = same_bool (closed_mark q.heap q.shared) (closed_mark r.heap r.shared) in
      let h = same_heap q.heap r.heap in
      let e1 : (m && h) ≡ true = and_right n (m && h) e in
      let e2 : h ≡ true = and_right m h e1 in
      record {
        nullable = same_bool-true q.nullable r.nullable (and_left n (m && h) e);
        shared = mark_to q.heap r.heap q.shared r.shared e2 (same_bool-true (closed_mark q.heap q.shared) (closed_mark r.heap r.shared) (and_left m h e1));
        heap = heap_to q.heap r.heap e2;
      }

  pub table_to : (a b : TableType) → table_matches a b ≡ true → ItemMatches (closed_item gs (entity.Table a)) (closed_item gs (entity.Table b))
  table_to a b e =
      let r = same_ref a.element_type b.element_type in
      let w = same_bool a.table64 b.table64 in
      let s = same_bool a.shared b.shared in
      let l = limits_match a.initial a.maximum b.initial b.maximum in
      let e1 : (w && (s && l)) ≡ true = and_right r (w && (s && l)) e in
      let e2 : (s && l) ≡ true = and_right w (s && l) e1 in
      record {
        elements = ref_to a.element_type b.element_type (and_left r (w && (s && l)) e);
        wide = same_bool-true a.table64 b.table64 (and_left w (s && l) e1);
        shared = same_bool-true a.shared b.shared (and_left s l e2);
        limits = limits_to a.initial b.initial a.maximum b.maximum (and_right s l e2);
      }

  val_equal_to : (v w : ValType) → same_val v w ≡ true → ValEqual (closed_val gs v) (closed_val gs w)
  val_equal_to val.I32 val.I32 e = tt
  val_equal_to val.I64 val.I64 e = tt
  val_equal_to val.F32 val.F32 e = tt
  val_equal_to val.F64 val.F64 e = tt
  val_equal_to val.V128 val.V128 e = tt
  val_equal_to (val.Ref q) (val.Ref r) e = ref_to q r e
  val_equal_to _ _ e = cc

  module _ (t : IsTable gs) where
    heap_from : (h k : HeapType) → IsHeapWithin (total gs) 0 h → IsHeapWithin (total gs) 0 k → closed_heap gs h ≡ closed_heap gs k → same_heap h k ≡ true
    heap_from (heap.Id i) (heap.Id j) v w e = eq-eqb i.index j.index (told gs i.index j.index t.closed t.distinct v w (same_types (closed gs i.index) (closed gs j.index) e))
    heap_from (heap.Abstract x) (heap.Abstract y) v w e = (names_told x y).1 (same_words x y e)
    heap_from (heap.Index k) h v w e = Prim.absurd (omega arith)
    heap_from h (heap.Index k) v w e = Prim.absurd (omega arith)
    heap_from (heap.Id i) (heap.Abstract y) v w e = cc
    heap_from (heap.Abstract x) (heap.Id j) v w e = cc

    mark_from : (h k : HeapType) (m n : Bool) → closed_heap gs h ≡ closed_heap gs k → shared_mark (closed_heap gs h) m ≡ shared_mark (closed_heap gs k) n → closed_mark h m ≡ closed_mark k n
    mark_from (heap.Id i) (heap.Id j) m n e f = refl
    mark_from (heap.Abstract x) (heap.Abstract y) m n e f = f
    mark_from (heap.Index i) (heap.Index j) m n e f = refl
    mark_from (heap.Id i) (heap.Index j) m n e f = refl
    mark_from (heap.Index i) (heap.Id j) m n e f = refl
    mark_from (heap.Id i) (heap.Abstract y) m n e f = cc
    mark_from (heap.Index i) (heap.Abstract y) m n e f = cc
    mark_from (heap.Abstract x) (heap.Id j) m n e f = cc
    mark_from (heap.Abstract x) (heap.Index j) m n e f = cc

    ref_from : (q r : RefType) → IsHeapWithin (total gs) 0 q.heap → IsHeapWithin (total gs) 0 r.heap → RefEqual (closed_ref gs q) (closed_ref gs r) → same_ref q r ≡ true
    ref_from q r v w m =
        both (same_bool q.nullable r.nullable) (same_bool (closed_mark q.heap q.shared) (closed_mark r.heap r.shared) && same_heap q.heap r.heap) (same_bool-equal q.nullable r.nullable m.nullable)
        (both (same_bool (closed_mark q.heap q.shared) (closed_mark r.heap r.shared)) (same_heap q.heap r.heap)
        (same_bool-equal (closed_mark q.heap q.shared) (closed_mark r.heap r.shared) (mark_from q.heap r.heap q.shared r.shared m.heap m.shared))
        (heap_from q.heap r.heap v w m.heap))

    table_from : (a b : TableType) → IsHeapWithin (total gs) 0 a.element_type.heap → IsHeapWithin (total gs) 0 b.element_type.heap
        → ItemMatches (closed_item gs (entity.Table a)) (closed_item gs (entity.Table b)) → table_matches a b ≡ true
    table_from a b v u m =
        let r = same_ref a.element_type b.element_type in
        let w = same_bool a.table64 b.table64 in
        let s = same_bool a.shared b.shared in
        let l = limits_match a.initial a.maximum b.initial b.maximum in
        both r (w && (s && l)) (ref_from a.element_type b.element_type v u m.elements)
        (both w (s && l) (same_bool-equal a.table64 b.table64 m.wide)
        (both s l (same_bool-equal a.shared b.shared m.shared) (limits_from a.initial b.initial a.maximum b.maximum m.limits)))

    val_equal_from : (a b : ValType) → IsValWithin (total gs) 0 a → IsValWithin (total gs) 0 b → ValEqual (closed_val gs a) (closed_val gs b) → same_val a b ≡ true
    val_equal_from val.I32 val.I32 v w e = refl
    val_equal_from val.I64 val.I64 v w e = refl
    val_equal_from val.F32 val.F32 v w e = refl
    val_equal_from val.F64 val.F64 v w e = refl
    val_equal_from val.V128 val.V128 v w e = refl
    val_equal_from (val.Ref q) (val.Ref r) v w e = ref_from q r v w e
    val_equal_from _ _ v w e = elim e [ ]

    content_to : (m : Bool) (a b : ValType) → IsValWithin (total gs) 0 a → IsValWithin (total gs) 0 b → content_matches gs m a b ≡ true → ContentMatches m (closed_val gs a) (closed_val gs b)
    content_to true a b v w e = val_equal_to a b e
    content_to false a b v w e = val_to gs t a b v w e

    content_from : (m : Bool) (a b : ValType) → IsValWithin (total gs) 0 a → IsValWithin (total gs) 0 b → ContentMatches m (closed_val gs a) (closed_val gs b) → content_matches gs m a b ≡ true
    content_from true a b v w c = val_equal_from a b v w c
    content_from false a b v w c = val_from gs t a b v w c

    global_to : (a b : GlobalType) → IsValWithin (total gs) 0 a.content_type → IsValWithin (total gs) 0 b.content_type → global_matches gs a b ≡ true
        → ItemMatches (closed_item gs (entity.Global a)) (closed_item gs (entity.Global b))
    global_to a b v w e =
        let m = same_bool a.mutable b.mutable in
        let s = same_bool a.shared b.shared in
        let c = content_matches gs a.mutable a.content_type b.content_type in
        let e1 : (s && c) ≡ true = and_right m (s && c) e in
        record {
          mutable = same_bool-true a.mutable b.mutable (and_left m (s && c) e);
          shared = same_bool-true a.shared b.shared (and_left s c e1);
          content = content_to a.mutable a.content_type b.content_type v w (and_right s c e1);
        }

    global_from : (a b : GlobalType) → IsValWithin (total gs) 0 a.content_type → IsValWithin (total gs) 0 b.content_type
        → ItemMatches (closed_item gs (entity.Global a)) (closed_item gs (entity.Global b)) → global_matches gs a b ≡ true
    global_from a b v w g =
        let m = same_bool a.mutable b.mutable in
        let s = same_bool a.shared b.shared in
        let c = content_matches gs a.mutable a.content_type b.content_type in
        both m (s && c) (same_bool-equal a.mutable b.mutable g.mutable)
        (both s c (same_bool-equal a.shared b.shared g.shared) (content_from a.mutable a.content_type b.content_type v w g.content))

    pub item_to : (a b : EntityType) → IsEntityWithin (total gs) a → IsEntityWithin (total gs) b → item_matches gs a b ≡ true → ItemMatches (closed_item gs a) (closed_item gs b)
    item_to (entity.Func a) (entity.Func b) v w e = declared_below gs t a.index b.index v e
    item_to (entity.Tag a) (entity.Tag b) v w e = ap (closed gs) (eqb-true a.index b.index e)
    item_to (entity.Table a) (entity.Table b) v w e = table_to a b e
    item_to (entity.Memory a) (entity.Memory b) v w e = memory_to a b e
    item_to (entity.Global a) (entity.Global b) v w e = global_to a b v w e
    item_to _ _ v w e = cc

    pub item_from : (a b : EntityType) → IsEntityWithin (total gs) a → IsEntityWithin (total gs) b → ItemMatches (closed_item gs a) (closed_item gs b) → item_matches gs a b ≡ true
    item_from (entity.Func a) (entity.Func b) v w m = below_declared gs t a.index b.index v w m
    item_from (entity.Tag a) (entity.Tag b) v w m = eq-eqb a.index b.index (told gs a.index b.index t.closed t.distinct v w m)
    item_from (entity.Table a) (entity.Table b) v w m = table_from a b v w m
    item_from (entity.Memory a) (entity.Memory b) v w m = memory_from a b m
    item_from (entity.Global a) (entity.Global b) v w m = global_from a b v w m
    item_from _ _ v w m = elim m [ ]

-- ## What a call says of them

unlike_true : (b : Bool) → b ≡ false → b ≡ true → ⊥
unlike_true b e f = cc

pub item_fails : (gs : List Group) (a b : EntityType) → IsTable gs → IsEntityWithin (total gs) a → IsEntityWithin (total gs) b → item_matches gs a b ≡ false → ItemMatches (closed_item gs a) (closed_item gs b) → ⊥
item_fails gs a b t v w e m = unlike_true (item_matches gs a b) e (item_from gs t a b v w m)

pub table_fails : (a b : TableType) → table_matches a b ≡ false → AnyTableMatches a b → ⊥
table_fails a b e m = unlike_true (table_matches a b) e (table_from m.groups m.kept a b m.left m.right m.matches)

pub memory_fails : (a b : MemoryType) → memory_matches a b ≡ false → MemoryMatches a b → ⊥
memory_fails a b e m = unlike_true (memory_matches a b) e (memory_from a b m)
