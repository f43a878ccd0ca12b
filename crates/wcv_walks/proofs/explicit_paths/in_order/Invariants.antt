use Rattle.std.proofs.Common.{◌≡◌, take}
use Rattle.wcv_types.specs.Entities.{entry_trees}
use Rattle.wcv_walks.specs.ExplicitPaths.{explicit_paths}
use Rattle.wcv_types.specs.Unfold.{trees}
use Rattle.wcv_walks.proofs.explicit_paths.in_order.Given as goal

-- those of the resources before
abbrev pub invariant-loop-k : goal.invariant-loop-k
invariant-loop-k l = l.paths ≡ explicit_paths (take l.k l.ids) (entry_trees (trees l.types.nodes) l.entries)
