use Rattle.std.proofs.Common.{arith}
use Rattle.std.proofs.lemmas.Result.{err_from_is_err_and}
use Rattle.wcv_canon.specs.Operands.{asked_option}
use Rattle.wcv_canon.proofs.Rows.{one_caused}
use Rattle.wcv_canon.proofs.asks.check_asks.Goals as goal

pub returns-in_err-check_some-clause-err : goal.returns-in_err-check_some-clause-err
returns-in_err-check_some-clause-err c =
    let p = err_from_is_err_and c.from_residual.result c.from_residual.ensures.1 in
    rw (p.1, p.2)
    (one_caused (asked_option c.args.types.now c.args.state.now c.args.options.now) c.args.asks.now c.loop-ask.ask-index _ c.args.offset c.in_err-check_some.field-0.0 (omega arith) c.in_err-check_some.ensures.err)
