use Rattle.std.proofs.Common.{◌≡◌, drop}
use Rattle.wcv_spaces.specs.Values.{first_unused}
use Rattle.wcv_spaces.proofs.values.first_unused.Given as goal

-- none before is not used
abbrev pub invariant-loop-k : goal.invariant-loop-k
invariant-loop-k l = first_unused l.k (drop l.k l.values) ≡ first_unused 0 l.values
