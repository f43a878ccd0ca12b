use Rattle.std.proofs.Common.{◌+◌, ◌≤◌, drop}
use Rattle.wcv_types.specs.Unfold.{trees}
use Rattle.wcv_compare.specs.Compared.{ArePassed}
use Rattle.wcv_atoms.specs.Extent.{entries_extent, matched_extent}
use Rattle.wcv_atoms.specs.IdPasses.{named_trees}
use Rattle.wcv_atoms.specs.Readings.{reads}
use Rattle.wcv_subtype.proofs.comparisons.unfit_among.Given as goal

-- the pairs that are kept pass, and what is left takes no more than is left of the steps
abbrev pub invariant-loop-k : goal.invariant-loop-k
invariant-loop-k g l = record {
  compared : ArePassed l.types (reads l.left) (reads l.right) l.compared;
  counted : l.steps + (matched_extent (named_trees (trees l.types.nodes) l.a) (drop l.k (named_trees (trees l.types.nodes) l.b)) + entries_extent (drop l.k (named_trees (trees l.types.nodes) l.b))) ≤
      l.fn.steps + (matched_extent (named_trees (trees l.types.nodes) l.a) (named_trees (trees l.types.nodes) l.b) + entries_extent (named_trees (trees l.types.nodes) l.b));
}
