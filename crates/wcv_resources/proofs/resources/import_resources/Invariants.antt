use Rattle.std.proofs.Common.{◌≡◌, ◌++◌, take}
use Rattle.wcv_lower.specs.Context.{placed}
use Rattle.wcv_resources.proofs.resources.import_resources.Given as goal

-- those before are imported
abbrev pub invariant-loop-k : goal.invariant-loop-k
invariant-loop-k l = l.resources ≡ l.fn.resources ++ placed l.position (take l.k l.new)
