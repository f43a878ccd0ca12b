use Rattle.wcv_types.specs.Entities.{entry_trees}
use Rattle.wcv_types.specs.Unfold.{trees}
use Rattle.wcv_resources.proofs.KeptPaths.{KeptBefore, Left, AllOfArena}
use Rattle.wcv_resources.proofs.kept.keep_all.Given as goal

-- those before that are free are kept, and none that is left is among them
abbrev pub invariant-loop-k : goal.invariant-loop-k
invariant-loop-k l = record {
  kept : KeptBefore l.defined (entry_trees (trees l.types.nodes) l.exports) l.k l.paths;
  left : Left l.defined l.k l.paths;
  stand : AllOfArena l.types l.paths;
}
