use Rattle.std.proofs.Common.{◌++◌, ◌≡◌, drop}
use Rattle.serde_json.specs.Data.{array}
use Rattle.wcv_syntax.specs.View.{items_view}
use Rattle.wcv_write.specs.Items.{item_list}
use Rattle.wcv_write.specs.Json.{tokens_of, tokens_of_items}
use Rattle.wcv_write.proofs.item.+items.Given as goal

abbrev pub invariant-write_items-loop-item : goal.invariant-write_items-loop-item
invariant-write_items-loop-item g l =
    let ix = g.I.Indices.written l.indices in l.out ++ tokens_of_items (item_list ix (items_view (drop l.item-index l.item-items))) ≡ l.fn.out ++ tokens_of (array (item_list ix (items_view l.item-items)))
