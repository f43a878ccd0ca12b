use Rattle.std.proofs.Common.{◌≡◌, ◌≤◌, length, take}
use Rattle.wcv_types.specs.Unfold.{parts_in, value_parts, value_slots}
use Rattle.wcv_types.proofs.defined_sort.count_nodes.Given as goal

-- those before the k-th are counted
abbrev pub invariant-loop-k : goal.invariant-loop-k
invariant-loop-k l = (l.count ≡ length (parts_in (take l.k (value_slots (value_parts l.shape))))) × (l.count ≤ l.k)
