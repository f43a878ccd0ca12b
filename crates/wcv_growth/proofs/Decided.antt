-- Each list of items is valid or refused.
use Rattle.std.proofs.Common.{◌≡◌, ℕ, suc, [], refl, Some, ◌⊎◌, inl, inr}
use Rattle.wcv_core.specs.Names.{Place, deeper}
use Rattle.wcv_core.specs.declared.error.ErrorKind.{ErrorKind}
use Rattle.wcv_core.specs.declared.features.WasmFeatures.{WasmFeatures}
use Rattle.wcv_syntax.specs.Model.{Form, component_item, Items, no_items, next_item}
use Rattle.wcv_lower.specs.Checks.{Cause, IsFree}
use Rattle.wcv_lower.specs.Context.{concrete}
use Rattle.wcv_lower.specs.Declared.{inside}
use Rattle.wcv_lower.specs.Ending.{component_end_checks}
use Rattle.wcv_lower.specs.Items.{read_item, item_causes}
use Rattle.wcv_lower.specs.Names.{Names, names_by_place}
use Rattle.wcv_lower.specs.Trees.{Tree_stack, tree_maker}
use Rattle.wcv_lower.proofs.Causes.{decided}
use Rattle.wcv_growth.proofs.ValidRead.{valid_there}
use Rattle.wcv_growth.specs.Valid.{ValidFrom, ValidInside, ValidItem, RefusedFrom, RefusedInside, RefusedItem, start, ValidTo, Refused}

module _ (fs : WasmFeatures) (names : Names) where
  -- what the items of the list at place w from position k on answer
  abbrev Answered : Place → ℕ → ℕ → Tree_stack → Items → Type 0
  Answered w end k c is = ((d : Tree_stack) × ValidFrom fs names w k c is d × IsFree (component_end_checks d.top)) ⊎ ((kind : ErrorKind) × (offset : ℕ) × RefusedFrom fs names w k c is end kind offset)

  -- what an item answers, and what is inside it
  abbrev Item_answered : Place → ℕ → Tree_stack → Form → Type 0
  Item_answered p at c f = ValidItem fs names p c f ⊎ ((kind : ErrorKind) × (offset : ℕ) × RefusedItem fs names p c at f kind offset)

  abbrev Inside_answered : Place → Tree_stack → Form → Type 0
  Inside_answered p c f = ValidInside fs names p c f ⊎ ((kind : ErrorKind) × (offset : ℕ) × RefusedInside fs names p c f kind offset)

  answered_end : (w : Place) (end k : ℕ) (c : Tree_stack) → IsFree (component_end_checks c.top) ⊎ ((kind : ErrorKind) × Cause (component_end_checks c.top) kind) → Answered w end k c no_items
  answered_end w end k c (inl free) = inl (c, refl, free)
  answered_end w end k c (inr p) = inr (p.0, end, (p.1, refl))

  -- it has no cause of its own
  answered_inside : (p : Place) (at : ℕ) (c : Tree_stack) (f : Form) → IsFree (item_causes fs (tree_maker names) p c f) → Inside_answered p c f → Item_answered p at c f
  answered_inside p at c f free (inl v) = inl (free, v)
  answered_inside p at c f free (inr r) = inr (r.0, r.1, inr (free, r.2))

  answered_item : (p : Place) (at : ℕ) (c : Tree_stack) (f : Form) → IsFree (item_causes fs (tree_maker names) p c f) ⊎ ((kind : ErrorKind) × Cause (item_causes fs (tree_maker names) p c f) kind) → Inside_answered p c f → Item_answered p at c f
  answered_item p at c f (inl free) i = answered_inside p at c f free i
  answered_item p at c f (inr x) i = inr (x.0, at, inl (x.1, refl))

  -- the first item is valid
  answered_after : (w : Place) (end k : ℕ) (c d : Tree_stack) (at : ℕ) (f : Form) (is : Items) → ValidItem fs names (deeper w k) c f → read_item fs (tree_maker names) (deeper w k) c f ≡ Some d → Answered w end (suc k) d is → Answered w end k c (next_item at f is)
  answered_after w end k c d at f is valid grown (inl r) = inl (r.0, (valid, (d, grown, r.1)), r.2)
  answered_after w end k c d at f is valid grown (inr r) = inr (r.0, r.1, inr (valid, (d, grown, r.2)))

  answered_first : (w : Place) (end k : ℕ) (c : Tree_stack) (at : ℕ) (f : Form) (is : Items) → Item_answered (deeper w k) at c f → ((d : Tree_stack) → Answered w end (suc k) d is) → Answered w end k c (next_item at f is)
  answered_first w end k c at f is (inr r) rest = inr (r.0, r.1, inl r.2)
  answered_first w end k c at f is (inl valid) rest =
      let g = valid_there fs names (deeper w k) c f valid in
      answered_after w end k c g.0 at f is valid g.1 (rest g.0)

  mutual
    pub answered : (w : Place) (end k : ℕ) (c : Tree_stack) (is : Items) → Answered w end k c is
    answered w end k c no_items = answered_end w end k c (decided (component_end_checks c.top))
    answered w end k c (next_item at f is) =
        answered_first w end k c at f is (answered_item (deeper w k) at c f (decided (item_causes fs (tree_maker names) (deeper w k) c f)) (inside_answered (deeper w k) c f)) (λ d. answered w end (suc k) d is)

    inside_answered : (p : Place) (c : Tree_stack) (f : Form) → Inside_answered p c f
    inside_answered p c (component_item is end) = answered p end 0 (inside concrete c) is
    inside_answered p c f = inl tt

-- a root is valid or refused
pub valid_or_refused : (features : WasmFeatures) (is : Items) (end : ℕ) → ((d : Tree_stack) × ValidTo features is d) ⊎ ((kind : ErrorKind) × (offset : ℕ) × Refused features is end kind offset)
valid_or_refused features is end = by_answer (answered features names_by_place [] end 0 start is)
  where
    by_answer : Answered features names_by_place [] end 0 start is → ((d : Tree_stack) × ValidTo features is d) ⊎ ((kind : ErrorKind) × (offset : ℕ) × Refused features is end kind offset)
    by_answer (inl r) = inl (r.0, (r.1, r.2))
    by_answer (inr r) = inr r
