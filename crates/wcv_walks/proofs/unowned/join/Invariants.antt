use Rattle.std.proofs.Common.{take, false}
use Rattle.wcv_types.specs.Gathering.{Gains}
use Rattle.wcv_types.proofs.Gaining.{Outside}
use Rattle.wcv_walks.proofs.unowned.join.Given as goal

-- those before have joined
abbrev pub invariant-loop-k : goal.invariant-loop-k
invariant-loop-k l = Gains (Outside (λ r. false) (take l.k l.set)) l.fn.free l.free
