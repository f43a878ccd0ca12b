use Rattle.std.proofs.Common.{◌≡◌, ◌+◌, ◌∙◌, ap, sym, List, drop, rules, Some}
use Rattle.std.specs.Prelude.{slice_get}
use Rattle.std.proofs.Math.ListN.{drop_of_length-le}
use Rattle.wcv_types.specs.Text.{Written, with_each}
use Rattle.wcv_types.specs.Unfold.{resource_names}
use Rattle.wcv_types.specs.declared.ids.ResourceId.{ResourceId}
use Rattle.wcv_text.specs.Numbers.{so_far}
use Rattle.wcv_text.proofs.Listing.{drop_next}
use Rattle.wcv_text.proofs.entry_list.number_owned.Goals as goal

pub loop-k-preserved : goal.loop-k-preserved
loop-k-preserved c = λ t.
    let found : slice_get c.args.owned.now c.loop-k.k ≡ Some c.in-Some.resource.now = search rules in
    ap (λ (w : Written). with_each w (resource_names (drop (c.loop-k.k + 1) c.args.owned.now))) (c.in_ok-resource-in-Some.ensures.given t) ∙
    sym (ap (λ (rs : List ResourceId). with_each (so_far c.loop-k.numbers t) (resource_names rs)) (drop_next c.args.owned.now c.loop-k.k c.in-Some.resource.now found)) ∙ c.loop-k.invariant t

pub returns : goal.returns
returns c = λ t.
    sym (ap (λ (rs : List ResourceId). with_each (so_far c.loop-k.numbers t) (resource_names rs)) (drop_of_length-le c.args.owned.now (search rules))) ∙ c.loop-k.invariant t
