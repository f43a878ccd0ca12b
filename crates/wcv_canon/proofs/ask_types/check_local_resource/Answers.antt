use Rattle.std.proofs.Common.{inr}
use Rattle.std.proofs.lemmas.Result.{err_from_is_err_and}
use Rattle.wcv_core.proofs.Closing.{caused_same}
use Rattle.wcv_spaces.specs.Looking.{local_rep_checks}
use Rattle.wcv_canon.proofs.Found.{local_free, local_caused}
use Rattle.wcv_canon.proofs.ask_types.check_local_resource.Goals as goal

pub returns-in_err-local_rep-clause-err : goal.returns-in_err-local_rep-clause-err
returns-in_err-local_rep-clause-err c =
    let p = err_from_is_err_and c.from_residual.result c.from_residual.ensures.1 in
    rw p.1 (local_caused c.args.types.now c.args.state.now c.requires.stands c.args.index c.args.offset p.0
    (caused_same (local_rep_checks c.args.state.now.spaces.types c.args.state.now.defined_resources c.args.index) c.args.offset c.in_err-local_rep.field-0.0 p.0 p.2.0 p.2.1 (inr c.in_err-local_rep.ensures.err)))

pub returns-clause-ok : goal.returns-clause-ok
returns-clause-ok c = local_free c.args.types.now c.args.state.now c.requires.stands c.args.index c.in_ok-local_rep.field-0 c.in_ok-local_rep.ensures.ok
