use Rattle.std.proofs.Common.{◌≡◌, take}
use Rattle.wcv_types.specs.Open.{listed}
use Rattle.wcv_flat.specs.Flat.{cores}
use Rattle.wcv_flat.proofs.lowering.core_types.Given as goal

-- those before the k-th are there
abbrev pub invariant-loop-k : goal.invariant-loop-k
invariant-loop-k l = l.core.items ≡ cores l.size (take l.k (listed l.types))
