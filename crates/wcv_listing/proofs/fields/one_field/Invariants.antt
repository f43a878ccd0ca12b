use Rattle.std.proofs.Common.{◌≡◌, ◌∷◌, [], length, drop, option_map}
use Rattle.serde_json.specs.Find.{get}
use Rattle.wcv_listing.specs.Fields.{has_only}
use Rattle.wcv_listing.proofs.Seen.{keys_among, last_under}
use Rattle.wcv_listing.specs.Seen.{view, members_view}
use Rattle.wcv_listing.proofs.fields.one_field.Given as goal

abbrev pub invariant-loop-member : goal.invariant-loop-member
invariant-loop-member l =
    (keys_among (l.name ∷ []) (members_view l.members) ≡ has_only (l.name ∷ []) (view l.value))
    × (last_under l.name (members_view l.members) (option_map view l.found) ≡ get l.name (view l.value))

abbrev pub decreases-loop-member : goal.decreases-loop-member
decreases-loop-member l = length (drop l.members.at l.members.tape.now)
