use Rattle.std.proofs.Common.{◌≡◌, ℕ, List, length, arith, ap}
use Rattle.std.proofs.lemmas.Option.{slice_get_within}
use Rattle.wcv_types.specs.Facts.{nodes_at}
use Rattle.wcv_types.proofs.nodes.Nodes.new.Goals as goal

pub invariant_of-result : goal.invariant_of-result
invariant_of-result c =
    let none : length c.new-2.result.items ≡ 0 = ap (λ (ps : List ℕ). length ps) c.new-2.ensures.items in
    (λ k position e. absurd (omega (arith, slice_get_within c.new-2.result.items k position e, none)), c.new-3.ensures (nodes_at c.new.result.items c.new-2.result.items))
