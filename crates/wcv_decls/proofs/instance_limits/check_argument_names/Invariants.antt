use Rattle.std.proofs.Common.{take}
use Rattle.wcv_lower.specs.Checks.{IsFree, each_too_long}
use Rattle.wcv_lower.specs.Instances.{argument_names}
use Rattle.wcv_decls.proofs.instance_limits.check_argument_names.Given as goal

abbrev pub invariant-loop-k : goal.invariant-loop-k
invariant-loop-k l = IsFree (each_too_long (take l.k (argument_names l.args)))
