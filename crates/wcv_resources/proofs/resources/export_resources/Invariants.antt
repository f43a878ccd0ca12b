use Rattle.std.proofs.Common.{◌≡◌, ◌++◌, take}
use Rattle.wcv_lower.specs.Context.{unknown}
use Rattle.wcv_resources.proofs.resources.export_resources.Given as goal

-- those before are defined
abbrev pub invariant-loop-k : goal.invariant-loop-k
invariant-loop-k l = l.resources ≡ l.fn.resources ++ unknown (take l.k l.new)
