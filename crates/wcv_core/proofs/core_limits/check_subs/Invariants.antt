use Rattle.std.proofs.Common.{take, map}
use Rattle.wcv_core.specs.Checks.{IsFree, all_checks}
use Rattle.wcv_core.specs.CoreFeatures.{sub_left}
use Rattle.wcv_core.specs.CoreForm.{sub_form}
use Rattle.wcv_core.proofs.core_limits.check_subs.Given as goal

abbrev pub invariant-loop-ty : goal.invariant-loop-ty
invariant-loop-ty l = record {
  free : IsFree (all_checks sub_left (take l.ty-index (map sub_form l.types)));
}
