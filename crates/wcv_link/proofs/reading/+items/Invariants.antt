use Rattle.std.proofs.Common.{◌≡◌, ◌+◌, ◌≤◌, suc, length}
use Rattle.std.specs.Vec.Iter.{into_iter_items, into_iter_len}
use Rattle.wcv_syntax.specs.View.{item_view, items_view}
use Rattle.wcv_link.proofs.ItemSizes.{form_size, items_size}
use Rattle.wcv_link.proofs.ItemsOn.{ToldSoFar}
use Rattle.wcv_link.proofs.reading.+items.Given as goal

abbrev pub decreases-read_item : goal.decreases-read_item
decreases-read_item l = form_size (item_view l.item).form

abbrev pub decreases-read_component : goal.decreases-read_component
decreases-read_component l = suc (suc (items_size (items_view l.items.items)))

abbrev pub decreases-read_items : goal.decreases-read_items
decreases-read_items l = suc (items_size (items_view l.items.items))

abbrev pub invariant-read_items-loop-item : goal.invariant-read_items-loop-item
invariant-read_items-loop-item l = record {
  far : ToldSoFar l.initial.types l.initial.nesting l.initial.components.items (items_view l.fn.items.items) l.types l.nesting l.components.items (length l.yielded) (items_view (into_iter_items l.item-iterator));
  position : l.position ≡ length l.yielded;
  count : length l.yielded + length (into_iter_items l.item-iterator) ≡ length l.fn.items.items;
  left : into_iter_len l.item-iterator ≡ length (into_iter_items l.item-iterator);
  small : items_size (items_view (into_iter_items l.item-iterator)) ≤ items_size (items_view l.fn.items.items);
}
