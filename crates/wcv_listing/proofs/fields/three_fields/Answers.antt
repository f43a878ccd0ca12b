use Rattle.std.proofs.Common.{◌∷◌, []}
use Rattle.wcv_listing.proofs.Seen.{keys_begun, value_begun}
use Rattle.wcv_listing.specs.Seen.{json_view, members_view}
use Rattle.wcv_listing.proofs.fields.three_fields.Goals as goal

pub loop-member-init : goal.loop-member-init
loop-member-init c =
    let j = json_view c.args.value in
    let ms = members_view c.in-Some.members in
    (keys_begun (c.args.first.now ∷ c.args.second.now ∷ c.args.third.now ∷ []) j ms c.in-Some.ensures, value_begun c.args.first.now j ms c.in-Some.ensures, value_begun c.args.second.now j ms c.in-Some.ensures, value_begun c.args.third.now j ms c.in-Some.ensures)
