use Rattle.std.proofs.Common.{take, map}
use Rattle.wcv_core.specs.Checks.{IsFree}
use Rattle.wcv_core.specs.CoreForm.{sub_form}
use Rattle.wcv_core.specs.CoreJoining.{order_checks}
use Rattle.wcv_core.proofs.canonical.check_order.Given as goal

abbrev pub invariant-loop-i : goal.invariant-loop-i
invariant-loop-i l = record {
  free : IsFree (order_checks 0 (take l.i (map sub_form l.types)));
}
