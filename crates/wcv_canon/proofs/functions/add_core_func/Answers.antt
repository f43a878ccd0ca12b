use Rattle.std.proofs.lemmas.Result.{err_from_is_err_and}
use Rattle.wcv_syntax.specs.View.{canon_view}
use Rattle.wcv_types.proofs.Grown.{extends_refl}
use Rattle.wcv_spaces.proofs.Keeping.{keeps_grown}
use Rattle.wcv_canon.proofs.CoreJoined.{early_caused}
use Rattle.wcv_canon.proofs.functions.add_core_func.Goals as goal

pub returns-in_err-facts-clause-err : goal.returns-in_err-facts-clause-err
returns-in_err-facts-clause-err c =
    let q = err_from_is_err_and c.from_residual.result c.from_residual.ensures.1 in
    rw (q.1, q.2) (λ outer.
    early_caused c.args.types.now c.args.state.now c.requires.open.stands (canon_view c.args.func.now) c.requires.kind outer c.args.offset c.in_err-facts.field-0.0 (c.in_err-facts.ensures.err outer))

pub returns-in_err-facts-clause-keeps : goal.returns-in_err-facts-clause-keeps
returns-in_err-facts-clause-keeps c = keeps_grown c.args.types.now c.args.types.now c.args.state.now (extends_refl c.args.types.now) c.requires.open.stands
