use Rattle.std.proofs.Common.{◌≡◌, take}
use Rattle.wcv_types.proofs.resource_set.ResourceSet.copy.Given as goal

-- those before are copied
abbrev pub invariant-loop-k : goal.invariant-loop-k
invariant-loop-k l = l.copied ≡ take l.k l.self
