use Rattle.std.proofs.Common.{arith, subst, inl, inr, ⊎_elim}
use Rattle.std.proofs.lemmas.Result.{err_from_is_err_and}
use Rattle.wcv_core.specs.Checks.{Checks, CausedBy}
use Rattle.wcv_core.proofs.Closing.{caused_at, free_next}
use Rattle.wcv_syntax.specs.declared.name.ComponentExport.{ComponentExport}
use Rattle.wcv_lower.specs.Checks.{IsFree, each_too_long, texts_of}
use Rattle.wcv_lower.specs.Entries.{extern_name}
use Rattle.wcv_decls.proofs.instance_limits.check_item_names.Goals as goal

abbrev long : ComponentExport → Checks
long e = each_too_long (texts_of (extern_name e.name))

pub returns-in_err-check_name-clause-err : goal.returns-in_err-check_name-clause-err
returns-in_err-check_name-clause-err c =
    let p = err_from_is_err_and c.from_residual.result c.from_residual.ensures.1 in
    let x = c.export-item.result in
    let r = c.in_err-check_name.field-0.0 in
    rw (p.1, p.2)
    (⊎_elim inl (λ d. inr (caused_at long c.args.exports.now c.loop-export.export-index x c.args.offset r (omega arith) (subst (λ (y : ComponentExport). CausedBy (long y) c.args.offset r) c.export-item.is d))) c.in_err-check_name.ensures.err)

pub loop-export-preserved : goal.loop-export-preserved
loop-export-preserved c =
    let x = c.export-item.result in
    record { free = free_next long c.args.exports.now c.loop-export.export-index x (omega arith) c.loop-export.invariant.free (subst (λ (y : ComponentExport). IsFree (long y)) c.export-item.is c.in_ok-check_name.ensures.ok) }
