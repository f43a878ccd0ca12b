use Rattle.std.proofs.Common.{◌≡◌, ℕ, ◌+◌, ◌*◌, ◌≤◌, length}
use Rattle.wcv_listing.specs.Grown.{Grown}
use Rattle.wcv_listing.proofs.Turns.{items_left, and_more, members_left}
use Rattle.wcv_listing.proofs.read.+read.Given as goal

abbrev pub decreases-read_value : goal.decreases-read_value
decreases-read_value l = 3 * l.depth + 1

abbrev pub decreases-read_behind : goal.decreases-read_behind
decreases-read_behind l = 3 * l.depth

abbrev pub decreases-read_items : goal.decreases-read_items
decreases-read_items l = 3 * l.depth + 2

abbrev pub decreases-read_members : goal.decreases-read_members
decreases-read_members l = 3 * l.depth + 2

abbrev pub invariant-read_items-loop-nodes : goal.invariant-read_items-loop-nodes
invariant-read_items-loop-nodes l =
    (n : ℕ) × (length l.reader ≤ n) × (items_left l.depth (length l.fn.reader) l.fn.reader ≡ and_more l.count (items_left l.depth n l.reader))
    × Grown l.initial.nodes.items l.fn.reader l.nodes.items l.reader × (l.count + length l.reader ≤ length l.fn.reader)

abbrev pub decreases-read_items-loop-nodes : goal.decreases-read_items-loop-nodes
decreases-read_items-loop-nodes l = length l.reader

abbrev pub invariant-read_members-loop-key : goal.invariant-read_members-loop-key
invariant-read_members-loop-key l =
    (n : ℕ) × (length l.reader ≤ n) × (members_left l.depth (length l.fn.reader) l.fn.reader ≡ members_left l.depth n l.reader)
    × Grown l.initial.nodes.items l.fn.reader l.nodes.items l.reader × (length l.reader ≤ length l.fn.reader)

abbrev pub decreases-read_members-loop-key : goal.decreases-read_members-loop-key
decreases-read_members-loop-key l = length l.reader
