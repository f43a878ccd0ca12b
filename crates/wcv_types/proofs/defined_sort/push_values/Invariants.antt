use Rattle.std.proofs.Common.{◌≡◌, ◌++◌, drop}
use Rattle.wcv_types.specs.Unfold.{parts_in, value_parts, value_slots}
use Rattle.wcv_types.proofs.defined_sort.push_values.Given as goal

abbrev pub invariant-loop-k : goal.invariant-loop-k
invariant-loop-k l = l.parts ++ parts_in (drop l.k (value_slots (value_parts l.shape))) ≡ l.initial.parts ++ parts_in (value_slots (value_parts l.shape))
