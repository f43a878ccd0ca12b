use Rattle.wcv_types.specs.Entities.{entry_trees}
use Rattle.wcv_types.specs.Unfold.{trees}
use Rattle.wcv_resources.proofs.KeptPaths.{NoneBefore}
use Rattle.wcv_resources.proofs.kept.first_free.Given as goal

-- no resource before is free
abbrev pub invariant-loop-k : goal.invariant-loop-k
invariant-loop-k l = NoneBefore l.defined (entry_trees (trees l.types.nodes) l.imports) l.k
