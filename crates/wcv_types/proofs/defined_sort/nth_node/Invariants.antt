use Rattle.std.proofs.Common.{◌≡◌, drop}
use Rattle.std.specs.Prelude.{slice_get}
use Rattle.wcv_types.specs.Unfold.{parts_in, value_parts, value_slots}
use Rattle.wcv_types.proofs.defined_sort.nth_node.Given as goal

-- the part that is sought is the left-th of those that are left
abbrev pub invariant-loop-at : goal.invariant-loop-at
invariant-loop-at l = slice_get (parts_in (value_slots (value_parts l.fn.shape))) l.fn.k ≡ slice_get (parts_in (drop l.at (value_slots (value_parts l.shape)))) l.left
