use Rattle.std.proofs.Common.{arith}
use Rattle.std.proofs.lemmas.Result.{err_from_is_err_and}
use Rattle.wcv_canon.specs.Options.{option_asked}
use Rattle.wcv_canon.proofs.Rows.{one_caused}
use Rattle.wcv_canon.proofs.options.check_each.Goals as goal

pub returns-in_err-check_option-clause-err : goal.returns-in_err-check_option-clause-err
returns-in_err-check_option-clause-err c =
    let p = err_from_is_err_and c.from_residual.result c.from_residual.ensures.1 in
    rw (p.1, p.2) (one_caused (option_asked c.args.types.now c.args.state.now c.args.pointer) c.args.options.now c.loop-option.option-index _ c.args.offset c.in_err-check_option.field-0.0 (omega arith) c.in_err-check_option.ensures.err)
