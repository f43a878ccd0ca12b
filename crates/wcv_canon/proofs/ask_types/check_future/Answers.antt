use Rattle.std.proofs.Common.{sym, inr}
use Rattle.std.proofs.lemmas.Result.{err_from_is_err_and}
use Rattle.wcv_core.proofs.Closing.{caused_same}
use Rattle.wcv_lower.specs.Checks.{missing}
use Rattle.wcv_lower.specs.Values.{type_at}
use Rattle.wcv_spaces.specs.Contents.{context_of}
use Rattle.wcv_canon.proofs.Carriers.{future_free, future_other, future_missing}
use Rattle.wcv_canon.proofs.ask_types.check_future.Goals as goal

pub returns-in_err-found-clause-err : goal.returns-in_err-found-clause-err
returns-in_err-found-clause-err c =
    let p = err_from_is_err_and c.from_residual.result c.from_residual.ensures.1 in
    rw p.1 (future_missing c.args.types.now c.args.state.now c.requires.stands c.args.index c.args.offset p.0
    (caused_same (missing (type_at (context_of c.args.types.now c.args.state.now) c.args.index)) c.args.offset c.in_err-found.field-0.0 p.0 p.2.0 p.2.1 (inr c.in_err-found.ensures.err)))

pub returns-then-is_future-clause-ok : goal.returns-then-is_future-clause-ok
returns-then-is_future-clause-ok c = future_free c.args.types.now c.args.state.now c.requires.stands c.args.index c.in_ok-found.found c.in_ok-found.ensures.ok (sym c.if-is_future.ensures)

pub returns-clause-err : goal.returns-clause-err
returns-clause-err c = future_other c.args.types.now c.args.state.now c.requires.stands c.args.index c.in_ok-found.found c.in_ok-found.ensures.ok c.args.offset c.wrong_sort.result c.wrong_sort.ensures.kind c.wrong_sort.ensures.offset (sym c.if-is_future.ensures)
