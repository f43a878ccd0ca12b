use Rattle.std.proofs.Common.{◌≡◌, ◌+◌, ◌*◌, ◌≤◌, drop, length}
use Rattle.wcv_types.specs.Entities.{entity_tree, EntityStands}
use Rattle.wcv_types.specs.Unfold.{trees}
use Rattle.wcv_counterparts.specs.IdCounterparts.{AreExports}
use Rattle.wcv_atoms.specs.IdPasses.{named_trees}
use Rattle.wcv_matching.specs.NamedPaths.{follow as follows}
use Rattle.wcv_counterparts.proofs.Exporting.{lands}
use Rattle.wcv_counterparts.proofs.counterparts.follow.Given as goal

-- the rest of the path decides, and each position takes two steps
abbrev pub invariant-loop-k : goal.invariant-loop-k
invariant-loop-k g l = record {
  maps : AreExports l.types l.seen;
  here_stands : EntityStands l.types l.here;
  there_stands : EntityStands l.types l.there;
  left : follows l.path (named_trees (trees l.types.nodes) l.entries) (named_trees (trees l.types.nodes) l.others) ≡ lands (entity_tree (trees l.types.nodes) l.here) (entity_tree (trees l.types.nodes) l.there) (drop l.k l.path);
  within : l.k ≤ length l.path;
  counted : l.steps + 2 ≤ l.fn.steps + 2 * l.k;
}
