use Rattle.std.proofs.Common.{◌≡◌, ◌++◌, drop}
use Rattle.wcv_syntax.specs.View.{entries}
use Rattle.wcv_syntax.proofs.+copy_item.Given as goal

abbrev pub invariant-copy_item::copy_items-loop-item : goal.invariant-copy_item::copy_items-loop-item
invariant-copy_item::copy_items-loop-item l = entries l.copied.items ++ entries (drop l.item-index l.item-items) ≡ entries l.item-items
