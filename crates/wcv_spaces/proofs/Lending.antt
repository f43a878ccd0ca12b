-- Borrowed handles in values.
use Rattle.std.proofs.Common.{◌≡◌, refl, sym, ◌∙◌, ap, false, ◌&&◌}
use Rattle.wcv_types.specs.Abi.{IsAbiOf, contains, borrow}
use Rattle.wcv_types.specs.Arena.{Arena}
use Rattle.wcv_types.specs.Entities.{entity_tree, EntityStands}
use Rattle.wcv_types.specs.Tree.{Sort, is_value}
use Rattle.wcv_types.specs.Unfold.{trees, slot_tree, value_slot}
use Rattle.wcv_types.specs.declared.abi.AbiInfo.{AbiInfo}
use Rattle.wcv_types.specs.declared.shapes.ComponentEntityType.{ComponentEntityType}
use Rattle.wcv_types.specs.declared.shapes.ComponentEntityType.TheVariants as entity
use Rattle.wcv_types.specs.declared.shapes.ComponentValType.{ComponentValType}
use Rattle.wcv_lower.specs.Checks.{same_sort}
use Rattle.wcv_lower.specs.Entries.{lends}
use Rattle.wcv_lower.specs.Trees.{tree_reader}
use Rattle.wcv_spaces.specs.Looking.{entity_sort}
use Rattle.wcv_spaces.proofs.Brought.{entity_sorted}

by_sort : (a : Arena) (x : ComponentEntityType) → EntityStands a x → lends tree_reader (entity_tree (trees a.nodes) x) ≡ (same_sort is_value (entity_sort x) && contains borrow (entity_tree (trees a.nodes) x))
by_sort a x h = ap (λ (o : Sort). same_sort is_value o && contains borrow (entity_tree (trees a.nodes) x)) (entity_sorted a x h)

pub lends_value : (a : Arena) (v : ComponentValType) (i : AbiInfo) → EntityStands a (entity.Value v) → IsAbiOf i (slot_tree (trees a.nodes) (value_slot v)) → i.contains_borrow ≡ lends tree_reader (entity_tree (trees a.nodes) (entity.Value v))
lends_value a v i h w = w.contains_borrow ∙ sym (by_sort a (entity.Value v) h)

-- nothing but a value does
pub lends_none : (a : Arena) (x : ComponentEntityType) → EntityStands a x → ((v : ComponentValType) → x ≡ entity.Value v → ⊥) → false ≡ lends tree_reader (entity_tree (trees a.nodes) x)
lends_none a (entity.Module i) h n = sym (by_sort a (entity.Module i) h)
lends_none a (entity.Func i) h n = sym (by_sort a (entity.Func i) h)
lends_none a (entity.Value v) h n = absurd (n v refl)
lends_none a (entity.Ty c r) h n = sym (by_sort a (entity.Ty c r) h)
lends_none a (entity.Instance i) h n = sym (by_sort a (entity.Instance i) h)
lends_none a (entity.Component i) h n = sym (by_sort a (entity.Component i) h)
