use Rattle.std.proofs.Common.{◌≡◌, take}
use Rattle.wcv_types.specs.Flat.{joined}
use Rattle.wcv_types.specs.Open.{open_join, listed}
use Rattle.wcv_types.proofs.lowered_types.LoweredTypes.joined.Given as goal

-- those before the k-th are joined
abbrev pub invariant-loop-k : goal.invariant-loop-k
invariant-loop-k l = listed l.list ≡ take l.k (joined open_join (listed l.self) (listed l.other))
