use Rattle.std.proofs.Common.{◌≡◌, ◌++◌, take}
use Rattle.wcv_types.specs.Open.{listed}
use Rattle.wcv_types.proofs.lowered_types.LoweredTypes.append.Given as goal

-- those before the k-th are appended
abbrev pub invariant-loop-k : goal.invariant-loop-k
invariant-loop-k l = listed l.self ≡ take 17 (listed l.fn.self ++ take l.k l.other.types)
