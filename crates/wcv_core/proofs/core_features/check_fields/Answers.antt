use Rattle.std.proofs.Common.{arith}
use Rattle.std.proofs.lemmas.Result.{err_from_is_err_and}
use Rattle.wcv_core.specs.CoreFeatures.{field_needs}
use Rattle.wcv_core.proofs.Closing.{caused_at}
use Rattle.wcv_core.proofs.core_features.check_fields.Goals as goal

pub returns-in_err-check_field-clause-err : goal.returns-in_err-check_field-clause-err
returns-in_err-check_field-clause-err c =
    let p = err_from_is_err_and c.from_residual.result c.from_residual.ensures.1 in
    rw (p.1, p.2) (caused_at (field_needs c.args.features.now) c.args.fields.now c.loop-field.field-index _ c.args.offset c.in_err-check_field.field-0.0 (omega arith) c.in_err-check_field.ensures.err)
