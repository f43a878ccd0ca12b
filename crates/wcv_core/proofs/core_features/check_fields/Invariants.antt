use Rattle.std.proofs.Common.{take}
use Rattle.wcv_core.specs.Checks.{IsFree, all_checks}
use Rattle.wcv_core.specs.CoreFeatures.{field_needs}
use Rattle.wcv_core.proofs.core_features.check_fields.Given as goal

abbrev pub invariant-loop-field : goal.invariant-loop-field
invariant-loop-field l = record {
  free : IsFree (all_checks (field_needs l.features) (take l.field-index l.fields));
}
