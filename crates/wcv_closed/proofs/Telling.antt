-- Equal closed forms are of equal value types and items, and groups behind change none.
use Rattle.std.proofs.Common.{◌≡◌, ℕ, ◌<◌, List, ◌++◌, refl, ap, arith}
use Rattle.wcv_core.specs.CoreForm.{Group}
use Rattle.wcv_core.specs.CoreGroups.{total, IsHeapWithin, IsValWithin}
use Rattle.wcv_core.specs.CoreSizes.{IsEntityWithin}
use Rattle.wcv_core.specs.declared.core_types.EntityType.{EntityType}
use Rattle.wcv_core.specs.declared.core_types.EntityType.TheVariants as entity
use Rattle.wcv_core.specs.declared.core_types.HeapType.{HeapType}
use Rattle.wcv_core.specs.declared.core_types.HeapType.TheVariants as heap
use Rattle.wcv_core.specs.declared.core_types.RefType.{RefType}
use Rattle.wcv_core.specs.declared.core_types.ValType.{ValType}
use Rattle.wcv_core.specs.declared.core_types.ValType.TheVariants as val
use Rattle.wcv_closed.specs.ClosedType.{Closed, closed}
use Rattle.wcv_closed.specs.ClosedTable.{IsTable}
use Rattle.wcv_closed.specs.ClosedValue.{to_type, Ref, Val, ref, func, tag, table, global, heap_by, ref_by, val_by, item_by}
use Rattle.wcv_closed.proofs.Unfolding.{told, closed_stays}

-- ## One name for one id

module _ {T : Type 0} (f : ℕ → T) (n : ℕ) (one : (i j : ℕ) → i < n → j < n → f i ≡ f j → i ≡ j) where
  same_types : (c d : T) → to_type c ≡ to_type d → c ≡ d
  same_types c d e = cc

  heap_told : (a b : HeapType) → IsHeapWithin n 0 a → IsHeapWithin n 0 b → heap_by f a ≡ heap_by f b → a ≡ b
  heap_told (heap.Abstract a) (heap.Abstract b) v w e = cc
  heap_told (heap.Index k) b v w e = Prim.absurd (omega arith)
  heap_told a (heap.Index k) v w e = Prim.absurd (omega arith)
  heap_told (heap.Id a) (heap.Id b) v w e =
      let q : a.index ≡ b.index = one a.index b.index v w (same_types (f a.index) (f b.index) e) in
      λ j. heap.Id (record { index = q j })
  heap_told (heap.Abstract a) (heap.Id b) v w e = cc
  heap_told (heap.Id a) (heap.Abstract b) v w e = cc

  ref_told : (q r : RefType) → IsHeapWithin n 0 q.heap → IsHeapWithin n 0 r.heap → ref_by f q ≡ ref_by f r → q ≡ r
  ref_told q r v w e =
      let h : q.heap ≡ r.heap = heap_told q.heap r.heap v w (ap (λ (x : Ref T). x.heap) e) in
      λ j. record { nullable = (e j).nullable; shared = (e j).shared; heap = h j }

  same_refs : (q r : Ref T) → ref q ≡ ref r → q ≡ r
  same_refs q r e = cc

  val_told : (a b : ValType) → IsValWithin n 0 a → IsValWithin n 0 b → val_by f a ≡ val_by f b → a ≡ b
  val_told val.I32 val.I32 v w e = refl
  val_told val.I64 val.I64 v w e = refl
  val_told val.F32 val.F32 v w e = refl
  val_told val.F64 val.F64 v w e = refl
  val_told val.V128 val.V128 v w e = refl
  val_told (val.Ref q) (val.Ref r) v w e = ap val.Ref (ref_told q r v w (same_refs (ref_by f q) (ref_by f r) e))
  val_told _ _ v w e = cc

  same_funcs : (c d : T) → func c ≡ func d → c ≡ d
  same_funcs c d e = cc

  same_tags : (c d : T) → tag c ≡ tag d → c ≡ d
  same_tags c d e = cc

  item_told : (a b : EntityType) → IsEntityWithin n a → IsEntityWithin n b → item_by f a ≡ item_by f b → a ≡ b
  item_told (entity.Func a) (entity.Func b) v w e =
      let q : a.index ≡ b.index = one a.index b.index v w (same_funcs (f a.index) (f b.index) e) in
      λ j. entity.Func (record { index = q j })
  item_told (entity.Tag a) (entity.Tag b) v w e =
      let q : a.index ≡ b.index = one a.index b.index v w (same_tags (f a.index) (f b.index) e) in
      λ j. entity.Tag (record { index = q j })
  item_told (entity.Table a) (entity.Table b) v w e =
      let x : ref_by f a.element_type ≡ ref_by f b.element_type = cc in
      let p : a.initial ≡ b.initial = cc in
      let q : a.maximum ≡ b.maximum = cc in
      let r : a.table64 ≡ b.table64 = cc in
      let s : a.shared ≡ b.shared = cc in
      let y : a.element_type ≡ b.element_type = ref_told a.element_type b.element_type v w x in
      λ j. entity.Table (record { element_type = y j; initial = p j; maximum = q j; table64 = r j; shared = s j })
  item_told (entity.Memory a) (entity.Memory b) v w e = cc
  item_told (entity.Global a) (entity.Global b) v w e =
      let x : val_by f a.content_type ≡ val_by f b.content_type = cc in
      let p : a.mutable ≡ b.mutable = cc in
      let q : a.shared ≡ b.shared = cc in
      let y : a.content_type ≡ b.content_type = val_told a.content_type b.content_type v w x in
      λ j. entity.Global (record { content_type = y j; mutable = p j; shared = q j })
  item_told _ _ v w e = cc

pub vals_told : (gs : List Group) (a b : ValType) → IsTable gs → IsValWithin (total gs) 0 a → IsValWithin (total gs) 0 b → val_by (closed gs) a ≡ val_by (closed gs) b → a ≡ b
vals_told gs a b t v w e = val_told (closed gs) (total gs) (λ i j l m c. told gs i j t.closed t.distinct l m c) a b v w e

pub items_told : (gs : List Group) (a b : EntityType) → IsTable gs → IsEntityWithin (total gs) a → IsEntityWithin (total gs) b → item_by (closed gs) a ≡ item_by (closed gs) b → a ≡ b
items_told gs a b t v w e = item_told (closed gs) (total gs) (λ i j l m c. told gs i j t.closed t.distinct l m c) a b v w e

-- ## Groups behind

module _ (gs hs : List Group) where
  heap_stays : (a : HeapType) → IsHeapWithin (total gs) 0 a → heap_by (closed (gs ++ hs)) a ≡ heap_by (closed gs) a
  heap_stays (heap.Abstract a) v = refl
  heap_stays (heap.Index k) v = refl
  heap_stays (heap.Id i) v = ap to_type (closed_stays gs hs i.index v)

  ref_stays : (r : RefType) → IsHeapWithin (total gs) 0 r.heap → ref_by (closed (gs ++ hs)) r ≡ ref_by (closed gs) r
  ref_stays r v = let h : heap_by (closed (gs ++ hs)) r.heap ≡ heap_by (closed gs) r.heap = heap_stays r.heap v in λ j. record { nullable = r.nullable; shared = r.shared; heap = h j }

  pub val_stays : (a : ValType) → IsValWithin (total gs) 0 a → val_by (closed (gs ++ hs)) a ≡ val_by (closed gs) a
  val_stays val.I32 v = refl
  val_stays val.I64 v = refl
  val_stays val.F32 v = refl
  val_stays val.F64 v = refl
  val_stays val.V128 v = refl
  val_stays (val.Ref r) v = ap ref (ref_stays r v)

  pub item_stays : (e : EntityType) → IsEntityWithin (total gs) e → item_by (closed (gs ++ hs)) e ≡ item_by (closed gs) e
  item_stays (entity.Func t) v = ap func (closed_stays gs hs t.index v)
  item_stays (entity.Tag t) v = ap tag (closed_stays gs hs t.index v)
  item_stays (entity.Table t) v = ap (λ (r : Ref Closed). table r t.initial t.maximum t.table64 t.shared) (ref_stays t.element_type v)
  item_stays (entity.Memory m) v = refl
  item_stays (entity.Global g) v = ap (λ (x : Val Closed). global x g.mutable g.shared) (val_stays g.content_type v)
