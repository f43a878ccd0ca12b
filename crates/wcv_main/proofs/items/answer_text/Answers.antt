use Rattle.std.proofs.Common.{◌≡◌, List, ℕ, refl, rules, codes}
use Rattle.wcv_listing.specs.Answers.{listing_view}
use Rattle.wcv_listing.specs.Listing.{outcome_of, not_json, bad_shape, listed}
use Rattle.wcv_main.specs.declared.reading.Reading.TheVariants as reading
use Rattle.wcv_main.specs.Due.{due_of_short}
use Rattle.wcv_main.specs.Report.{line}
use Rattle.wcv_main.specs.declared.status.Status.TheVariants as status
use Rattle.wcv_main.proofs.Ending.{ends_as_read, nothing_ends}
use Rattle.wcv_main.proofs.items.answer_text.Goals as goal

pub returns-in-Ok : goal.returns-in-Ok
returns-in-Ok g c = ends_as_read c.args.bytes.now (listed (listing_view c.in-Ok.listing)) c.answer_items.result _ _ _ _ c.in-Ok.ensures c.answer_items.ensures

pub returns-in-Err-BadShape : goal.returns-in-Err-BadShape
returns-in-Err-BadShape g c =
    let bytes : List ℕ = c.args.bytes.now in
    let is : outcome_of bytes ≡ bad_shape c.in-Err-BadShape.at = rw c.in-Err-BadShape.field-0-is at c.in-Err-BadShape.ensures in
    ends_as_read bytes (bad_shape c.in-Err-BadShape.at) c.no_shape.result _ _ _ _ is c.no_shape.ensures

pub returns-in-Err-NotJson : goal.returns-in-Err-NotJson
returns-in-Err-NotJson g c =
    let bytes : List ℕ = c.args.bytes.now in
    let is : outcome_of bytes ≡ not_json = rw c.in-Err-NotJson.field-0-is at c.in-Err-NotJson.ensures in
    ends_as_read bytes not_json c.finish.result _ _ _ _ is (status.Listing, line (codes "bad listing: not JSON"), (refl, refl), c.finish.ensures)

pub returns-in-Err-OutOfMemory : goal.returns-in-Err-OutOfMemory
returns-in-Err-OutOfMemory g c = nothing_ends (due_of_short reading.Listing c.args.bytes.now) _ _
