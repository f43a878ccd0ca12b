use Rattle.std.proofs.Common.{◌≡◌, ◌≤◌, ℕ, length}
use Rattle.json.specs.Json as json
use Rattle.json.specs.Json.{parse_map}
use Rattle.serde_json.specs.Data.{Members, no_members}
use Rattle.wcv_listing.specs.Parsed.{members, value_in_range}
use Rattle.wcv_listing.specs.Root.{IsSeen}
use Rattle.wcv_listing.proofs.root.read_members.Given as goal

-- what is left of the members, what stands before them, and what that says
abbrev pub invariant-loop-key : goal.invariant-loop-key
invariant-loop-key l =
    (n : ℕ) × (before : json.Members → json.Members) × (found : Members) × (length l.reader ≤ n)
    × (json.members (value_in_range 126) (length l.initial.reader) l.initial.reader ≡ parse_map before (json.members (value_in_range 126) n l.reader))
    × ((ms : json.Members) → members (before ms) no_members ≡ members ms found) × IsSeen l.seen found

abbrev pub decreases-loop-key : goal.decreases-loop-key
decreases-loop-key l = length l.reader
