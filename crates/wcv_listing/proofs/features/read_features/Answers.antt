use Rattle.std.proofs.Common.{◌≡◌, Some, option_map, sym, ap, ◌∙◌, rules}
use Rattle.std.specs.Int.RustNames.{bit_or}
use Rattle.serde_json.specs.Data.{no_items, item}
use Rattle.wcv_listing.specs.Features.{feature_bit, union_of}
use Rattle.wcv_listing.specs.Fields.{both}
use Rattle.wcv_listing.specs.Parsed.{items}
use Rattle.wcv_listing.specs.Seen.{view, list_view}
use Rattle.wcv_listing.proofs.Unions.{joined, joined_more, joined_all}
use Rattle.wcv_listing.proofs.features.read_features.Goals as goal

pub loop-name-preserved : goal.loop-name-preserved
loop-name-preserved c =
    let before = c.loop-name.features.0 in
    let flag = c.in_ok-read_feature.field-0.0 in
    let rest = union_of (list_view c.in-Some.rest) in
    let next : list_view c.loop-name.list ≡ item (view c.in-Some.name) (list_view c.in-Some.rest) = ap items c.in-Some.ensures.value in
    let named : feature_bit (view c.in-Some.name) ≡ Some flag = sym c.in_ok-read_feature.ensures in
    let step : union_of (list_view c.loop-name.list) ≡ option_map (bit_or flag) rest =
    ap union_of next ∙ ap (λ bit. both bit_or bit rest) named in
    ap (λ bits. joined bits rest) (c.insert.ensures tt) ∙ joined_more before flag rest ∙ ap (joined before) (sym step) ∙ c.loop-name.invariant

pub returns : goal.returns
returns c =
    let end : list_view c.loop-name.list ≡ no_items = search rules in
    sym (joined_all c.loop-name.features) ∙ ap (λ ds. joined c.loop-name.features.0 (union_of ds)) (sym end) ∙ c.loop-name.invariant
