use Rattle.std.proofs.lemmas.Result.{err_from_is_err_and}
use Rattle.wcv_spaces.specs.NameLists.{list_names}
use Rattle.wcv_decls.proofs.Texts.{texts_caused, texts_push}
use Rattle.wcv_decls.proofs.limits.check_texts.Goals as goal

pub returns-in_err-check_text-clause-err : goal.returns-in_err-check_text-clause-err
returns-in_err-check_text-clause-err c =
    let p = err_from_is_err_and c.from_residual.result c.from_residual.ensures.1 in
    rw (p.1, p.2)
    (texts_caused (list_names c.args.list) c.loop-k.k c.text_at.result.now c.text_at.ensures c.args.offset c.in_err-check_text.field-0.0 c.in_err-check_text.ensures.err)

pub loop-k-preserved : goal.loop-k-preserved
loop-k-preserved c = texts_push (list_names c.args.list) c.loop-k.k c.text_at.result.now c.text_at.ensures c.loop-k.invariant c.in_ok-check_text.ensures.ok
