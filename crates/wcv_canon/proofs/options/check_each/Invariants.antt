use Rattle.std.proofs.Common.{take}
use Rattle.wcv_core.specs.Checks.{IsFree, all_checks}
use Rattle.wcv_canon.specs.Options.{option_asked}
use Rattle.wcv_canon.proofs.options.check_each.Given as goal

abbrev pub invariant-loop-option : goal.invariant-loop-option
invariant-loop-option l = record {
  free : IsFree (all_checks (option_asked l.types l.state l.pointer) (take l.option-index l.options));
}
