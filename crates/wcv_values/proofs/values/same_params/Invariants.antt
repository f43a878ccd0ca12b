use Rattle.std.proofs.Common.{◌≡◌, ◌+◌, ◌≤◌, drop}
use Rattle.wcv_types.specs.Unfold.{trees, value_slots}
use Rattle.wcv_atoms.specs.Extent.{values_extent}
use Rattle.wcv_atoms.specs.Readings.{reads}
use Rattle.wcv_values.specs.SeenValues.{labelled, same_slots}
use Rattle.wcv_values.proofs.values.same_params.Given as goal

-- what is left decides, and what it takes is left of the steps
abbrev pub invariant-loop-k : goal.invariant-loop-k
invariant-loop-k g l = record {
  same : same_slots (trees l.types.nodes) (reads l.left) (reads l.right) (value_slots (labelled l.a)) (value_slots (labelled l.b)) ≡
      same_slots (trees l.types.nodes) (reads l.left) (reads l.right) (value_slots (drop l.k (labelled l.a))) (value_slots (drop l.k (labelled l.b)));
  counted : l.steps + (values_extent (trees l.types.nodes) (drop l.k (labelled l.a)) + values_extent (trees l.types.nodes) (drop l.k (labelled l.b))) ≤
      l.fn.steps + (values_extent (trees l.types.nodes) (labelled l.a) + values_extent (trees l.types.nodes) (labelled l.b));
}
