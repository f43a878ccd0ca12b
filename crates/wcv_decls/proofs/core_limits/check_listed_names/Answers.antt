use Rattle.std.proofs.Common.{arith, subst, sym}
use Rattle.std.proofs.lemmas.Result.{err_from_is_err_and}
use Rattle.wcv_syntax.specs.declared.core_section.Export.{Export}
use Rattle.wcv_lower.specs.CoreInstances.{listed_names}
use Rattle.wcv_lower.specs.Checks.{IsFree, too_long}
use Rattle.wcv_spaces.specs.Promises.{MemoryOrCausedBy}
use Rattle.wcv_decls.proofs.Texts.{named_at, texts_caused, texts_push}
use Rattle.wcv_decls.proofs.core_limits.check_listed_names.Goals as goal

pub returns-in_err-check_text-clause-err : goal.returns-in_err-check_text-clause-err
returns-in_err-check_text-clause-err c =
    let p = err_from_is_err_and c.from_residual.result c.from_residual.ensures.1 in
    let x = c.index-exports-k.result in
    rw (p.1, p.2)
    (texts_caused (listed_names c.args.exports.now) c.loop-k.k x.name (named_at (λ (y : Export). y.name) c.args.exports.now c.loop-k.k x (omega arith) c.index-exports-k.is) c.args.offset c.in_err-check_text.field-0.0
    (subst (λ (y : Export). MemoryOrCausedBy (too_long y.name) c.args.offset c.in_err-check_text.field-0.0) (sym c.index-exports-k.is) c.in_err-check_text.ensures.err))

pub loop-k-preserved : goal.loop-k-preserved
loop-k-preserved c =
    let x = c.index-exports-k.result in
    texts_push (listed_names c.args.exports.now) c.loop-k.k x.name (named_at (λ (y : Export). y.name) c.args.exports.now c.loop-k.k x (omega arith) c.index-exports-k.is) c.loop-k.invariant
    (subst (λ (y : Export). IsFree (too_long y.name)) (sym c.index-exports-k.is) c.in_ok-check_text.ensures.ok)
