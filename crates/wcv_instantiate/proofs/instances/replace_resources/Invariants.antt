use Rattle.std.proofs.Common.{take}
use Rattle.wcv_instantiate.specs.Opening.{Replaced}
use Rattle.wcv_instantiate.proofs.instances.replace_resources.Given as goal

abbrev pub invariant-loop-k : goal.invariant-loop-k
invariant-loop-k l = Replaced l.initial.types l.types l.initial.map l.map (take l.k l.owned) l.paths
