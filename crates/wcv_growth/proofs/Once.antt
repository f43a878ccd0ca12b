-- A list of items is never both valid and refused, it leads to one stack, and is refused at one place.
use Rattle.std.proofs.Common.{◌≡◌, ℕ, suc, [], sym, ◌∙◌, subst, Some, inl, inr}
use Rattle.wcv_core.specs.Names.{Place, deeper}
use Rattle.wcv_core.specs.declared.error.ErrorKind.{ErrorKind}
use Rattle.wcv_core.specs.declared.features.WasmFeatures.{WasmFeatures}
use Rattle.wcv_syntax.specs.Model.{Form, component_item, Items, no_items, next_item}
use Rattle.wcv_lower.specs.Checks.{Cause, IsFree}
use Rattle.wcv_lower.specs.Context.{concrete}
use Rattle.wcv_lower.specs.Declared.{inside}
use Rattle.wcv_lower.specs.Ending.{component_end_checks}
use Rattle.wcv_lower.specs.Items.{item_causes}
use Rattle.wcv_lower.specs.Names.{Names, names_by_place}
use Rattle.wcv_lower.specs.Trees.{Tree_stack, tree_maker}
use Rattle.wcv_lower.proofs.Causes.{free_or_cause}
use Rattle.wcv_growth.specs.Valid.{ValidFrom, ValidInside, RefusedFrom, RefusedInside, start, ValidTo, Refused}

some_same : (x y : Tree_stack) → Some x ≡ Some y → x ≡ y
some_same x y e = cc

module _ (fs : WasmFeatures) (names : Names) where
  mutual
    reads_not_refused : (w : Place) (end k : ℕ) (c : Tree_stack) (is : Items) (d : Tree_stack) (kind : ErrorKind) (offset : ℕ) → ValidFrom fs names w k c is d → IsFree (component_end_checks d.top) → RefusedFrom fs names w k c is end kind offset → ⊥
    reads_not_refused w end k c no_items d kind offset r f x = free_or_cause (component_end_checks d.top) kind f (subst (λ (z : Tree_stack). Cause (component_end_checks z.top) kind) r x.0)
    reads_not_refused w end k c (next_item at g is) d kind offset r f (inl (inl x)) = free_or_cause (item_causes fs (tree_maker names) (deeper w k) c g) kind r.0.0 x.0
    reads_not_refused w end k c (next_item at g is) d kind offset r f (inl (inr x)) = inside_not_refused (deeper w k) c g kind offset r.0.1 x.1
    reads_not_refused w end k c (next_item at g is) d kind offset r f (inr x) =
        let same : x.1.0 ≡ r.1.0 = some_same x.1.0 r.1.0 (sym x.1.1 ∙ r.1.1) in
        reads_not_refused w end (suc k) r.1.0 is d kind offset r.1.2 f (subst (λ (z : Tree_stack). RefusedFrom fs names w (suc k) z is end kind offset) same x.1.2)

    inside_not_refused : (p : Place) (c : Tree_stack) (f : Form) (kind : ErrorKind) (offset : ℕ) → ValidInside fs names p c f → RefusedInside fs names p c f kind offset → ⊥
    inside_not_refused p c (component_item is end) kind offset v x = reads_not_refused p end 0 (inside concrete c) is v.0 kind offset v.1 v.2 x
    inside_not_refused p c f kind offset v x = x

  reads_once : (w : Place) (k : ℕ) (c : Tree_stack) (is : Items) (d d' : Tree_stack) → ValidFrom fs names w k c is d → ValidFrom fs names w k c is d' → d ≡ d'
  reads_once w k c no_items d d' r s = sym r ∙ s
  reads_once w k c (next_item at g is) d d' r s =
      let same : s.1.0 ≡ r.1.0 = some_same s.1.0 r.1.0 (sym s.1.1 ∙ r.1.1) in
      reads_once w (suc k) r.1.0 is d d' r.1.2 (subst (λ (z : Tree_stack). ValidFrom fs names w (suc k) z is d') same s.1.2)

  mutual
    one_place : (w : Place) (end k : ℕ) (c : Tree_stack) (is : Items) (kind kind' : ErrorKind) (offset offset' : ℕ) → RefusedFrom fs names w k c is end kind offset → RefusedFrom fs names w k c is end kind' offset' → offset ≡ offset'
    one_place w end k c no_items kind kind' offset offset' x y = x.1 ∙ sym y.1
    one_place w end k c (next_item at g is) kind kind' offset offset' (inl (inl x)) (inl (inl y)) = x.1 ∙ sym y.1
    one_place w end k c (next_item at g is) kind kind' offset offset' (inl (inl x)) (inl (inr y)) = absurd (free_or_cause (item_causes fs (tree_maker names) (deeper w k) c g) kind y.0 x.0)
    one_place w end k c (next_item at g is) kind kind' offset offset' (inl (inl x)) (inr y) = absurd (free_or_cause (item_causes fs (tree_maker names) (deeper w k) c g) kind y.0.0 x.0)
    one_place w end k c (next_item at g is) kind kind' offset offset' (inl (inr x)) (inl (inl y)) = absurd (free_or_cause (item_causes fs (tree_maker names) (deeper w k) c g) kind' x.0 y.0)
    one_place w end k c (next_item at g is) kind kind' offset offset' (inl (inr x)) (inl (inr y)) = inside_one_place (deeper w k) c g kind kind' offset offset' x.1 y.1
    one_place w end k c (next_item at g is) kind kind' offset offset' (inl (inr x)) (inr y) = absurd (inside_not_refused (deeper w k) c g kind offset y.0.1 x.1)
    one_place w end k c (next_item at g is) kind kind' offset offset' (inr x) (inl (inl y)) = absurd (free_or_cause (item_causes fs (tree_maker names) (deeper w k) c g) kind' x.0.0 y.0)
    one_place w end k c (next_item at g is) kind kind' offset offset' (inr x) (inl (inr y)) = absurd (inside_not_refused (deeper w k) c g kind' offset' x.0.1 y.1)
    one_place w end k c (next_item at g is) kind kind' offset offset' (inr x) (inr y) =
        let same : y.1.0 ≡ x.1.0 = some_same y.1.0 x.1.0 (sym y.1.1 ∙ x.1.1) in
        one_place w end (suc k) x.1.0 is kind kind' offset offset' x.1.2 (subst (λ (z : Tree_stack). RefusedFrom fs names w (suc k) z is end kind' offset') same y.1.2)

    inside_one_place : (p : Place) (c : Tree_stack) (f : Form) (kind kind' : ErrorKind) (offset offset' : ℕ) → RefusedInside fs names p c f kind offset → RefusedInside fs names p c f kind' offset' → offset ≡ offset'
    inside_one_place p c (component_item is end) kind kind' offset offset' x y = one_place p end 0 (inside concrete c) is kind kind' offset offset' x y
    inside_one_place p c f kind kind' offset offset' x y = absurd x

-- valid and refused exclude one another
pub valid_not_refused : (features : WasmFeatures) (is : Items) (end : ℕ) (d : Tree_stack) (kind : ErrorKind) (offset : ℕ) → ValidTo features is d → Refused features is end kind offset → ⊥
valid_not_refused features is end d kind offset v r = reads_not_refused features names_by_place [] end 0 start is d kind offset v.0 v.1 r

-- a valid root leads to one stack
pub valid_once : (features : WasmFeatures) (is : Items) (d d' : Tree_stack) → ValidTo features is d → ValidTo features is d' → d ≡ d'
valid_once features is d d' v w = reads_once features names_by_place [] 0 start is d d' v.0 w.0

-- a root is refused at one offset
pub refused_once : (features : WasmFeatures) (is : Items) (end : ℕ) (kind kind' : ErrorKind) (offset offset' : ℕ) → Refused features is end kind offset → Refused features is end kind' offset' → offset ≡ offset'
refused_once features is end kind kind' offset offset' x y = one_place features names_by_place [] end 0 start is kind kind' offset offset' x y
