use Rattle.std.proofs.Common.{take}
use Rattle.wcv_core.specs.Checks.{IsFree, all_checks}
use Rattle.wcv_core.specs.CoreFeatures.{val_needs}
use Rattle.wcv_core.proofs.core_features.check_vals.Given as goal

abbrev pub invariant-loop-ty : goal.invariant-loop-ty
invariant-loop-ty l = record {
  free : IsFree (all_checks (val_needs l.features) (take l.ty-index l.types));
}
