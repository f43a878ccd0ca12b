use Rattle.std.proofs.Common.{arith}
use Rattle.std.proofs.lemmas.Result.{err_from_is_err_and}
use Rattle.wcv_core.proofs.Closing.{caused_mapped}
use Rattle.wcv_syntax.specs.ModuleTypes.{decl_left}
use Rattle.wcv_module.proofs.limits.check_each.Goals as goal

pub returns-in_err-check_limits-clause-err : goal.returns-in_err-check_limits-clause-err
returns-in_err-check_limits-clause-err g c =
    let p = err_from_is_err_and c.from_residual.result c.from_residual.ensures.1 in
    rw (p.1, p.2)
    (caused_mapped g.D.ModuleDeclaration.form decl_left c.args.decls.now c.loop-decl.decl-index c.decl-item.result c.args.offset c.in_err-check_limits.field-0.0 (omega arith) c.decl-item.is c.in_err-check_limits.ensures.err)
