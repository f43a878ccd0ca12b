use Rattle.std.proofs.Common.{◌≡◌, ℕ, ◌+◌, ◌∙◌, ap, sym, List, drop, map, rules, Some}
use Rattle.std.specs.Prelude.{slice_get}
use Rattle.std.proofs.Math.ListN.{drop_of_length-le}
use Rattle.wcv_types.specs.Text.{Written, with_paths}
use Rattle.wcv_types.specs.Unfold.{resource_path}
use Rattle.wcv_types.specs.declared.ids.ResourceId.{ResourceId}
use Rattle.wcv_text.specs.Numbers.{so_far}
use Rattle.wcv_text.proofs.Listing.{drop_next}
use Rattle.wcv_text.proofs.entry_list.number_paths.Goals as goal

pub loop-k-preserved : goal.loop-k-preserved
loop-k-preserved c = λ t.
    let entry : ResourceId × List ℕ = (c.in-Some.resource.now, c.in-Some.field-0-1.now) in
    let found : slice_get c.args.paths.now c.loop-k.k ≡ Some entry = sym c.in-Some.ensures in
    ap (λ (w : Written). with_paths w (map resource_path (drop (c.loop-k.k + 1) c.args.paths.now))) (c.in_ok-resource-in-Some.ensures.given t) ∙
    sym (ap (λ (ps : List (ResourceId × List ℕ)). with_paths (so_far c.loop-k.numbers t) (map resource_path ps)) (drop_next c.args.paths.now c.loop-k.k entry found)) ∙ c.loop-k.invariant t

pub returns : goal.returns
returns c = λ t.
    sym (ap (λ (ps : List (ResourceId × List ℕ)). with_paths (so_far c.loop-k.numbers t) (map resource_path ps)) (drop_of_length-le c.args.paths.now (search rules))) ∙ c.loop-k.invariant t
