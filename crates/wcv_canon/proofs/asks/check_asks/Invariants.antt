use Rattle.std.proofs.Common.{take}
use Rattle.wcv_core.specs.Checks.{IsFree, all_checks}
use Rattle.wcv_canon.specs.Operands.{asked_option}
use Rattle.wcv_canon.proofs.asks.check_asks.Given as goal

abbrev pub invariant-loop-ask : goal.invariant-loop-ask
invariant-loop-ask l = record {
  free : IsFree (all_checks (asked_option l.types l.state l.options) (take l.ask-index l.asks));
}
