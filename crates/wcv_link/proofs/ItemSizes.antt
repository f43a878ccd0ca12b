-- Sizes of written items, by which their reading ends.
use Rattle.std.proofs.Common.{◌≡◌, ℕ, zero, suc, ◌+◌, ◌≤◌, ◌<◌, List, [], ◌∷◌, length, arith, refl, ap}
use Rattle.wcv_syntax.specs.Model.{Form, component_item, Items, no_items, next_item}
use Rattle.wcv_syntax.specs.View.{items_view}
use Rattle.wcv_syntax.specs.declared.item.Item.{Item}
use Rattle.wcv_lower.specs.Items.{item_count}

abbrev mutual
  pub form_size : Form → ℕ
  form_size (component_item is end) = suc (suc (suc (items_size is)))
  form_size f = 1

  pub items_size : Items → ℕ
  items_size no_items = zero
  items_size (next_item at f is) = form_size f + items_size is

-- of those that are left, the first is no larger than all
pub first_smaller : (at : ℕ) (f : Form) (left all : Items) → items_size (next_item at f left) ≤ items_size all → form_size f < suc (items_size all)
first_smaller at f left all h = omega (arith, h)

pub rest_smaller : (at : ℕ) (f : Form) (left all : Items) → items_size (next_item at f left) ≤ items_size all → items_size left ≤ items_size all
rest_smaller at f left all h = omega (arith, h)

-- they are as many as those of the list
pub counted : (xs : List Item) → item_count (items_view xs) ≡ length xs
counted [] = refl
counted (x ∷ xs) = ap suc (counted xs)
