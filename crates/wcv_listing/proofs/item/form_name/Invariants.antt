use Rattle.std.proofs.Common.{◌≡◌, length, drop}
use Rattle.wcv_listing.specs.Keyed.{beside_at, name_beside_at}
use Rattle.wcv_listing.specs.Seen.{json_view, members_view}
use Rattle.wcv_listing.proofs.item.form_name.Given as goal

abbrev pub invariant-loop-member : goal.invariant-loop-member
invariant-loop-member l = beside_at (members_view l.members) ≡ name_beside_at (json_view l.value)

abbrev pub decreases-loop-member : goal.decreases-loop-member
decreases-loop-member l = length (drop l.members.at l.members.tape.now)
