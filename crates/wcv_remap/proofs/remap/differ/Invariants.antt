use Rattle.std.proofs.Common.{◌≡◌, drop}
use Rattle.wcv_remap.specs.Remap.{any_other}
use Rattle.wcv_remap.proofs.remap.differ.Given as goal

abbrev pub invariant-loop-k : goal.invariant-loop-k
invariant-loop-k l = any_other l.a l.b ≡ any_other (drop l.k l.a) (drop l.k l.b)
