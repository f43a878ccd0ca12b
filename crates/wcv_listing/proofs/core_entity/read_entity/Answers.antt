use Rattle.std.proofs.Common.{◌≡◌, Some, None, rules}
use Rattle.wcv_listing.specs.CoreForms.{entity_under, entity_of}
use Rattle.wcv_listing.specs.Fields.{sole}
use Rattle.wcv_listing.specs.Seen.{view, json_view}
use Rattle.wcv_listing.proofs.Keyed.{none_is, some_is, entity_by_key}
use Rattle.wcv_listing.proofs.core_entity.read_entity.Goals as goal

pub returns-in-Some : goal.returns-in-Some
returns-in-Some c =
    let some : Some (c.in-Some.key.now, view c.in-Some.body) ≡ sole (view c.args.value) = search rules in
    some_is (λ k b. entity_under k b) (view c.args.value) (entity_of (view c.args.value)) (entity_by_key (json_view c.args.value)) c.in-Some.key.now (view c.in-Some.body) c.read_under.result some c.read_under.ensures

pub returns-in-None : goal.returns-in-None
returns-in-None c =
    let none : None ≡ sole (view c.args.value) = search rules in
    none_is (λ k b. entity_under k b) (view c.args.value) (entity_of (view c.args.value)) (entity_by_key (json_view c.args.value)) none
