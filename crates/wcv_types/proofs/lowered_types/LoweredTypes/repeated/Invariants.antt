use Rattle.std.proofs.Common.{◌≡◌, ◌++◌, ◌-◌, take}
use Rattle.wcv_types.specs.Flat.{repeated}
use Rattle.wcv_types.specs.Open.{listed}
use Rattle.wcv_types.proofs.lowered_types.LoweredTypes.repeated.Given as goal

-- with those that are left they are all
abbrev pub invariant-loop-k : goal.invariant-loop-k
invariant-loop-k l = take 17 (listed l.list ++ repeated (l.times - l.k) (listed l.self)) ≡ take 17 (repeated l.times (listed l.self))
