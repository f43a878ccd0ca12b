use Rattle.std.proofs.Common.{◌≡◌, Some, None, rules}
use Rattle.wcv_listing.specs.Fields.{sole}
use Rattle.wcv_listing.specs.Forms.{indexed_ref}
use Rattle.wcv_listing.specs.Keyed.{under, ref_rows}
use Rattle.wcv_listing.specs.Seen.{view, json_view}
use Rattle.wcv_listing.proofs.Keyed.{none_is, some_is, ref_by_key}
use Rattle.wcv_listing.proofs.forms.read_indexed_ref.Goals as goal

pub returns-in-Some : goal.returns-in-Some
returns-in-Some c =
    let some : Some (c.in-Some.key.now, view c.in-Some.body) ≡ sole (view c.args.value) = search rules in
    some_is (λ k b. under ref_rows k b) (view c.args.value) (indexed_ref (view c.args.value)) (ref_by_key (json_view c.args.value)) c.in-Some.key.now (view c.in-Some.body) c.read_ref_under.result some c.read_ref_under.ensures

pub returns-in-None : goal.returns-in-None
returns-in-None c =
    let none : None ≡ sole (view c.args.value) = search rules in
    none_is (λ k b. under ref_rows k b) (view c.args.value) (indexed_ref (view c.args.value)) (ref_by_key (json_view c.args.value)) none
