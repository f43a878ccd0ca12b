use Rattle.std.proofs.Common.{take}
use Rattle.wcv_types.specs.Gathering.{Gains}
use Rattle.wcv_types.specs.Resources as resources
use Rattle.wcv_types.specs.Tree.{head}
use Rattle.wcv_types.specs.Unfold.{tree_at}
use Rattle.wcv_types.proofs.Gaining.{Outside}
use Rattle.wcv_walks.proofs.unowned.free_outside.Given as goal

-- those before have joined
abbrev pub invariant-loop-k : goal.invariant-loop-k
invariant-loop-k l = Gains (Outside (resources.owns (head (tree_at l.types l.part))) (take l.k l.inside)) l.fn.free l.free
