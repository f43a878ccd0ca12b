use Rattle.std.proofs.Common.{◌≡◌, ◌+◌, ◌*◌, ◌++◌, length, drop, map, option_map}
use Rattle.wcv_syntax.specs.View.{item_view}
use Rattle.wcv_listing.specs.Fields.{all_of, array_of}
use Rattle.wcv_listing.specs.Listing.{item_within}
use Rattle.wcv_listing.specs.Seen.{view, list_view}
use Rattle.wcv_listing.proofs.item.+items.Given as goal

abbrev pub decreases-read_item_within : goal.decreases-read_item_within
decreases-read_item_within l = 5 * l.depth

abbrev pub decreases-read_item_over : goal.decreases-read_item_over
decreases-read_item_over l = 5 * l.depth + 4

abbrev pub decreases-read_section : goal.decreases-read_section
decreases-read_section l = 5 * l.depth + 3

abbrev pub decreases-read_component : goal.decreases-read_component
decreases-read_component l = 5 * l.depth + 2

abbrev pub decreases-read_items : goal.decreases-read_items
decreases-read_items l = 5 * l.depth + 1

abbrev pub invariant-read_items-loop-inner : goal.invariant-read_items-loop-inner
invariant-read_items-loop-inner l = option_map (λ es. map item_view l.list.items ++ es) (all_of (item_within l.depth) (list_view l.values)) ≡ array_of (item_within l.depth) (view l.value)

abbrev pub decreases-read_items-loop-inner : goal.decreases-read_items-loop-inner
decreases-read_items-loop-inner l = length (drop l.values.at l.values.tape.now)
