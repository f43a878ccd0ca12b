use Rattle.std.proofs.Common.{◌≡◌, Some, None, rules}
use Rattle.wcv_listing.specs.Aliases.{alias_of}
use Rattle.wcv_listing.specs.Fields.{sole}
use Rattle.wcv_listing.specs.Keyed.{under, alias_rows}
use Rattle.wcv_listing.specs.Seen.{view, json_view}
use Rattle.wcv_listing.proofs.Grown.{if_ok}
use Rattle.wcv_listing.proofs.Keyed.{none_is, some_is, alias_by_key}
use Rattle.wcv_listing.proofs.alias.read_alias.Goals as goal

pub returns-in-Some : goal.returns-in-Some
returns-in-Some c =
    let some : Some (c.in-Some.key.now, view c.in-Some.body) ≡ sole (view c.args.value) = search rules in
    if_ok c.read_alias_under.result (λ x h. some_is (λ k b. under alias_rows k b) (view c.args.value) (alias_of (view c.args.value)) (alias_by_key (json_view c.args.value)) c.in-Some.key.now (view c.in-Some.body) x some h) c.read_alias_under.ensures

pub returns-in-None : goal.returns-in-None
returns-in-None c =
    let none : None ≡ sole (view c.args.value) = search rules in
    none_is (λ k b. under alias_rows k b) (view c.args.value) (alias_of (view c.args.value)) (alias_by_key (json_view c.args.value)) none
