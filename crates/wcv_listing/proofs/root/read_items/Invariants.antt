use Rattle.std.proofs.Common.{◌≡◌, ◌≤◌, ℕ, length, true}
use Rattle.json.specs.Json as json
use Rattle.json.specs.Json.{Items, parse_map}
use Rattle.wcv_syntax.specs.View.{entries}
use Rattle.wcv_listing.specs.Listing.{entries_from}
use Rattle.wcv_listing.specs.Parsed.{items, value_in_range}
use Rattle.wcv_listing.specs.Root.{going, KeepsOthers}
use Rattle.wcv_listing.proofs.root.read_items.Given as goal

-- what is left of the items, what stands before them, and what was made of that
abbrev pub invariant-loop-alloc : goal.invariant-loop-alloc
invariant-loop-alloc l =
    (n : ℕ) × (before : Items → Items) × (length l.reader ≤ n)
    × (json.items (value_in_range 125) (length l.initial.reader) l.initial.reader ≡ parse_map before (json.items (value_in_range 125) n l.reader))
    × ((js : Items) → entries_from 0 (items (before js)) ≡ going (entries l.seen.items.items) l.seen.bad (items js))
    × (l.seen.is_list ≡ true) × KeepsOthers l.initial.seen l.seen × (length l.reader ≤ length l.initial.reader)

abbrev pub decreases-loop-alloc : goal.decreases-loop-alloc
decreases-loop-alloc l = length l.reader
