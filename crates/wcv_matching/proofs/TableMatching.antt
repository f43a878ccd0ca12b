-- Matching over the core types of one table.
use Rattle.std.proofs.Common.{◌≡◌, ℕ, zero, suc, ◌<◌, ◌≤◌, ◌⊎◌, inl, inr, List, [], ◌∷◌, length, get_or, Some, None, refl, sym, ap, subst, arith}
use Rattle.wcv_core.specs.CoreForm.{Group}
use Rattle.wcv_core.specs.CoreGroups.{total}
use Rattle.wcv_core.specs.declared.core_types.EntityType.{EntityType}
use Rattle.wcv_core.specs.declared.core_types.EntityType.TheVariants as entity
use Rattle.wcv_core.specs.declared.core_types.HeapType.{HeapType}
use Rattle.wcv_core.specs.declared.core_types.HeapType.TheVariants as heap
use Rattle.wcv_core.specs.declared.core_types.ValType.{ValType}
use Rattle.wcv_core.specs.declared.core_types.ValType.TheVariants as val
use Rattle.wcv_closed.specs.ClosedItems.{ItemKeepsForm}
use Rattle.wcv_closed.specs.ClosedMatching.{form_word, Leads, KeepsForm, HeapKeepsForm, ValKeepsForm, SupersKeepForm}
use Rattle.wcv_closed.specs.ClosedTable.{IsTable}
use Rattle.wcv_closed.specs.ClosedType.{Closed, closed, all_closed, no_closed}
use Rattle.wcv_closed.specs.ClosedValue.{closed_heap, closed_val, closed_item}
use Rattle.wcv_closed.proofs.Declared.{keeps_form}
use Rattle.wcv_closed.proofs.ItemMatching.{item_on}
use Rattle.wcv_closed.proofs.Unfolding.{count}
use Rattle.wcv_matching.specs.ModuleItems.{ItemsMatch}
use Rattle.wcv_matching.proofs.MatchingOrder.{Goes_on}

-- what stands past the end of a table has no supertype
past_keeps : (b : Closed) (xs : List Closed) → Leads no_closed xs b → form_word b ≡ form_word no_closed
past_keeps b [] e = ap form_word (sym e)
past_keeps b (x ∷ xs) e = let f : None ≡ Some x = e.0 in cc

module _ (gs : List Group) (t : IsTable gs) (s : SupersKeepForm gs) where
  past_end : (i : ℕ) → total gs ≤ i → closed gs i ≡ no_closed
  unfolding closed
  past_end i l = let m : length (all_closed gs) ≡ total gs = count gs in go (all_closed gs) i (omega arith)
    where
      go : (cs : List Closed) (i : ℕ) → length cs ≤ i → get_or cs i no_closed ≡ no_closed
      go [] i l = refl
      go (c ∷ cs) zero l = Prim.absurd (omega arith)
      go (c ∷ cs) (suc i) l = go cs i (omega arith)

  each_keeps : (i : ℕ) → KeepsForm (closed gs i)
  each_keeps i = go (split i (total gs))
    where
      split : (i n : ℕ) → (i < n) ⊎ (n ≤ i)
      split i n = grind arith

      go : (i < total gs) ⊎ (total gs ≤ i) → KeepsForm (closed gs i)
      go (inl l) = keeps_form gs t s i l
      go (inr l) = subst KeepsForm (sym (past_end i l)) (λ b w. past_keeps b w.0 w.1)

  heap_keeps : (h : HeapType) → HeapKeepsForm (closed_heap gs h)
  heap_keeps (heap.Abstract x) = tt
  heap_keeps (heap.Index k) = tt
  heap_keeps (heap.Id i) = each_keeps i.index

  val_keeps : (v : ValType) → ValKeepsForm (closed_val gs v)
  val_keeps val.I32 = tt
  val_keeps val.I64 = tt
  val_keeps val.F32 = tt
  val_keeps val.F64 = tt
  val_keeps val.V128 = tt
  val_keeps (val.Ref r) = heap_keeps r.heap

  item_keeps : (e : EntityType) → ItemKeepsForm (closed_item gs e)
  item_keeps (entity.Func i) = tt
  item_keeps (entity.Tag i) = tt
  item_keeps (entity.Table i) = tt
  item_keeps (entity.Memory m) = tt
  item_keeps (entity.Global g) = val_keeps g.content_type

  pub items_go_on : Goes_on (ItemsMatch gs)
  items_go_on x y z p q = item_on (closed_item gs x) (closed_item gs y) (closed_item gs z) (item_keeps x) (item_keeps y) p q
