use Rattle.std.proofs.Common.{arith}
use Rattle.std.proofs.lemmas.Result.{err_from_is_err_and}
use Rattle.wcv_core.specs.CoreFeatures.{sub_left}
use Rattle.wcv_core.specs.CoreForm.{sub_form}
use Rattle.wcv_core.proofs.Closing.{caused_mapped}
use Rattle.wcv_core.proofs.core_limits.check_subs.Goals as goal

pub returns-in_err-check_lists-clause-err : goal.returns-in_err-check_lists-clause-err
returns-in_err-check_lists-clause-err c =
    let p = err_from_is_err_and c.from_residual.result c.from_residual.ensures.1 in
    rw (p.1, p.2)
    (caused_mapped sub_form sub_left c.args.types.now c.loop-ty.ty-index c.ty-item.result c.args.offset c.in_err-check_lists.field-0.0 (omega arith) c.ty-item.is c.in_err-check_lists.ensures.err)
