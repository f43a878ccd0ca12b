use Rattle.std.proofs.Common.{◌≡◌, [], ◌∷◌, true, Some, None, rules}
use Rattle.serde_json.specs.Find.{get}
use Rattle.wcv_listing.specs.Fields.{has_only}
use Rattle.wcv_listing.specs.Seen.{view, json_view, members_view}
use Rattle.wcv_listing.proofs.Sole.{sole_is}
use Rattle.wcv_listing.proofs.value.sole_member.Goals as goal

pub returns-in_err-body : goal.returns-in_err-body
returns-in_err-body c =
    let k = c.in_ok-first.first.0.now in
    let only : has_only (k ∷ []) (view c.args.value) ≡ true = search rules in
    let none : None ≡ get k (view c.args.value) = search rules in
    let is = sole_is (json_view c.args.value) (members_view c.in_ok-members.field-0) (members_view c.in_ok-first.rest) k (json_view c.in_ok-first.first.1) None c.in_ok-members.ensures c.in_ok-first.ensures.value only none in
    search (rules, is)

pub returns : goal.returns
returns c =
    let k = c.in_ok-first.first.0.now in
    let only : has_only (k ∷ []) (view c.args.value) ≡ true = search rules in
    let found : Some (view c.in_ok-body.body) ≡ get k (view c.args.value) = search rules in
    sole_is (json_view c.args.value) (members_view c.in_ok-members.field-0) (members_view c.in_ok-first.rest) k (json_view c.in_ok-first.first.1) (Some (view c.in_ok-body.body)) c.in_ok-members.ensures c.in_ok-first.ensures.value only found
