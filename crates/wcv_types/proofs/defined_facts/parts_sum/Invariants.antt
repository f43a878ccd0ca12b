use Rattle.std.proofs.Common.{◌≡◌, take, false}
use Rattle.wcv_types.specs.Sums.{IsSumOf}
use Rattle.wcv_types.specs.Unfold.{defined_slots, handles, slot_parts, trees}
use Rattle.wcv_types.proofs.defined_facts.parts_sum.Given as goal

-- the parts before the k-th are added up
abbrev pub invariant-loop-k : goal.invariant-loop-k
invariant-loop-k l = IsSumOf l.sum (slot_parts (trees l.types.nodes) (take l.k (defined_slots l.shape))) × (handles l.shape ≡ false)
