use Rattle.std.proofs.Common.{◌≡◌, ◌+◌, ◌≤◌, drop, map, take}
use Rattle.wcv_types.specs.Unfold.{resource_path, trees}
use Rattle.wcv_atoms.specs.Extent.{walks}
use Rattle.wcv_counterparts.specs.IdCounterparts.{lands_on, AreExports}
use Rattle.wcv_atoms.specs.IdPasses.{named_trees}
use Rattle.wcv_counterparts.proofs.OwnPaths.{landing}
use Rattle.wcv_counterparts.proofs.counterparts.push_counterparts.Given as goal

-- those before are in the list, and what the others take is left of the steps
abbrev pub invariant-loop-k : goal.invariant-loop-k
invariant-loop-k g l = record {
  maps : AreExports l.types l.seen;
  found : map lands_on l.found.items ≡ map (landing l.paths (named_trees (trees l.types.nodes) l.entries) (named_trees (trees l.types.nodes) l.others)) (take l.k l.paths);
  counted : l.steps + walks (map resource_path (drop l.k l.paths)) ≤ l.fn.steps + walks (map resource_path l.paths);
}
