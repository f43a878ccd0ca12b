use Rattle.std.proofs.Common.{◌≡◌, length, drop, option_map}
use Rattle.json.specs.Find.{later_or, get_member, get}
use Rattle.wcv_listing.specs.Seen.{json_view, members_view}
use Rattle.wcv_listing.proofs.value.member_at.Given as goal

abbrev pub invariant-loop-member : goal.invariant-loop-member
invariant-loop-member l = get l.key (json_view l.value) ≡ later_or (get_member l.key (members_view l.members)) (option_map json_view l.found)

abbrev pub decreases-loop-member : goal.decreases-loop-member
decreases-loop-member l = length (drop l.members.at l.members.tape.now)
