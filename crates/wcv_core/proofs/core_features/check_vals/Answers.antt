use Rattle.std.proofs.Common.{arith}
use Rattle.std.proofs.lemmas.Result.{err_from_is_err_and}
use Rattle.wcv_core.specs.CoreFeatures.{val_needs}
use Rattle.wcv_core.proofs.Closing.{caused_at}
use Rattle.wcv_core.proofs.core_features.check_vals.Goals as goal

pub returns-in_err-check_val_features-clause-err : goal.returns-in_err-check_val_features-clause-err
returns-in_err-check_val_features-clause-err c =
    let p = err_from_is_err_and c.from_residual.result c.from_residual.ensures.1 in
    rw (p.1, p.2) (caused_at (val_needs c.args.features.now) c.args.types.now c.loop-ty.ty-index _ c.args.offset c.in_err-check_val_features.field-0.0 (omega arith) c.in_err-check_val_features.ensures.err)
