use Rattle.std.proofs.Common.{◌≡◌, ◌+◌, ◌*◌, ◌≤◌, drop}
use Rattle.wcv_types.specs.Unfold.{defined_slots, parts_in, trees, value_parts, value_slots}
use Rattle.wcv_types.proofs.Gathered.{ranks}
use Rattle.wcv_types.proofs.NamedBySet.{value_rank}
use Rattle.wcv_atoms.specs.Extent.{values_extent}
use Rattle.wcv_atoms.specs.Readings.{reads}
use Rattle.wcv_values.specs.SeenValues.{same_slots}
use Rattle.wcv_values.proofs.values.+same_values.Given as goal

abbrev pub decreases-same_value : goal.decreases-same_value
decreases-same_value g l = 3 * value_rank l.a

abbrev pub decreases-same_contents : goal.decreases-same_contents
decreases-same_contents g l = 3 * ranks (parts_in (defined_slots l.a.now)) + 2

abbrev pub decreases-same_part : goal.decreases-same_part
decreases-same_part g l = 3 * value_rank l.a + 1

-- what is left decides, and what it takes is left of the steps
abbrev pub invariant-same_contents-loop-k : goal.invariant-same_contents-loop-k
invariant-same_contents-loop-k g l = record {
  same : same_slots (trees l.types.nodes) (reads l.left) (reads l.right) (defined_slots l.a) (defined_slots l.b) ≡
      same_slots (trees l.types.nodes) (reads l.left) (reads l.right) (value_slots (drop l.k (value_parts l.a))) (value_slots (drop l.k (value_parts l.b)));
  counted : l.steps + (values_extent (trees l.types.nodes) (drop l.k (value_parts l.a)) + values_extent (trees l.types.nodes) (drop l.k (value_parts l.b))) ≤
      l.fn.steps + (values_extent (trees l.types.nodes) (value_parts l.a) + values_extent (trees l.types.nodes) (value_parts l.b));
}
