use Rattle.std.proofs.Common.{take}
use Rattle.wcv_types.specs.Sums.{IsSumOf}
use Rattle.wcv_types.specs.Unfold.{field_slots, slot_parts, trees}
use Rattle.std.proofs.Common.{[]}
use Rattle.wcv_types.proofs.func_facts.func_sum.Given as goal

-- the parameters before are added up
abbrev pub invariant-loop-param : goal.invariant-loop-param
invariant-loop-param l = record { sum : IsSumOf l.sum (slot_parts (trees l.types.nodes) (field_slots (take l.param-index l.params) [])) }
