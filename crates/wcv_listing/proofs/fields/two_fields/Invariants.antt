use Rattle.std.proofs.Common.{◌≡◌, ◌∷◌, [], length, drop, option_map}
use Rattle.serde_json.specs.Find.{get}
use Rattle.wcv_listing.specs.Fields.{has_only}
use Rattle.wcv_listing.proofs.Seen.{keys_among, last_under}
use Rattle.wcv_listing.specs.Seen.{view, members_view}
use Rattle.wcv_listing.proofs.fields.two_fields.Given as goal

abbrev pub invariant-loop-member : goal.invariant-loop-member
invariant-loop-member l =
    (keys_among (l.first ∷ l.second ∷ []) (members_view l.members) ≡ has_only (l.first ∷ l.second ∷ []) (view l.value))
    × (last_under l.first (members_view l.members) (option_map view l.at_first) ≡ get l.first (view l.value))
    × (last_under l.second (members_view l.members) (option_map view l.at_second) ≡ get l.second (view l.value))

abbrev pub decreases-loop-member : goal.decreases-loop-member
decreases-loop-member l = length (drop l.members.at l.members.tape.now)
