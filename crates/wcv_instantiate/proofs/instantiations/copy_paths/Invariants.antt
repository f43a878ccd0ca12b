use Rattle.std.proofs.Common.{◌≡◌, take}
use Rattle.wcv_instantiate.proofs.instantiations.copy_paths.Given as goal

-- those before are copied
abbrev pub invariant-loop-k : goal.invariant-loop-k
invariant-loop-k l = l.copied ≡ take l.k l.paths
