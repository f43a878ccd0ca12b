use Rattle.std.proofs.Common.{take, map}
use Rattle.wcv_core.specs.Checks.{IsFree, all_checks}
use Rattle.wcv_core.specs.CoreFeatures.{sub_needs}
use Rattle.wcv_core.specs.CoreForm.{sub_form}
use Rattle.wcv_core.proofs.core_features.check_subs.Given as goal

abbrev pub invariant-loop-ty : goal.invariant-loop-ty
invariant-loop-ty l = record {
  free : IsFree (all_checks (sub_needs l.features) (take l.ty-index (map sub_form l.types)));
}
