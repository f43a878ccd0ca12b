use Rattle.std.proofs.Common.{arith}
use Rattle.std.proofs.lemmas.Result.{err_from_is_err_and}
use Rattle.wcv_core.specs.CoreRules.{type_checks}
use Rattle.wcv_core.proofs.Closing.{caused_ranged}
use Rattle.wcv_core.proofs.core_rows.Rows.check_types.Goals as goal

pub returns-in_err-check_type-clause-err : goal.returns-in_err-check_type-clause-err
returns-in_err-check_type-clause-err c =
    let p = err_from_is_err_and c.from_residual-in_err-check_type.result c.from_residual-in_err-check_type.ensures.1 in
    rw (p.1, p.2)
    (caused_ranged (type_checks c.args.self.now) c.args.first c.args.count c.loop-position.position c.id_at.result.index c.args.offset c.in_err-check_type.field-0.0 (omega arith) c.id_at.ensures c.in_err-check_type.ensures.err)
