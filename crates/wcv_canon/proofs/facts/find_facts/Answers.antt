use Rattle.std.proofs.Common.{◌∙◌}
use Rattle.std.proofs.lemmas.Result.{err_from_is_err_and}
use Rattle.wcv_core.proofs.Closing.{caused_same}
use Rattle.wcv_syntax.specs.View.{canon_view}
use Rattle.wcv_types.specs.Tree.{is_func}
use Rattle.wcv_flat.specs.RowTypes.{appended}
use Rattle.wcv_lower.specs.Canons.{appends_found}
use Rattle.wcv_lower.specs.Checks.{no_room}
use Rattle.wcv_lower.specs.Context.{counts}
use Rattle.wcv_spaces.specs.Contents.{context_of}
use Rattle.wcv_canon.specs.Facts.{facts_in}
use Rattle.wcv_canon.proofs.EarlyChecks.{early_free, operands_caused, listed_caused, there_caused, room_caused}
use Rattle.wcv_canon.proofs.facts.find_facts.Goals as goal

pub returns-in_err-check_operands-clause-err : goal.returns-in_err-check_operands-clause-err
returns-in_err-check_operands-clause-err c =
    let q = err_from_is_err_and c.from_residual.result c.from_residual.ensures.1 in
    rw (q.1, q.2) (λ outer. operands_caused c.args.types.now c.args.state.now (canon_view c.args.func.now) outer c.args.offset c.in_err-check_operands.field-0.0 (c.in_err-check_operands.ensures.err outer))

pub returns-in_err-options-clause-err : goal.returns-in_err-options-clause-err
returns-in_err-options-clause-err c =
    let q = err_from_is_err_and c.from_residual-in_err-options.result c.from_residual-in_err-options.ensures.1 in
    rw (q.1, q.2) (λ outer. listed_caused c.args.types.now c.args.state.now (canon_view c.args.func.now) outer c.args.offset c.in_err-options.field-0.0 (c.in_err-options.ensures.err outer))

pub returns-in_err-function-clause-err : goal.returns-in_err-function-clause-err
returns-in_err-function-clause-err c =
    let q = err_from_is_err_and c.from_residual-in_err-function.result c.from_residual-in_err-function.ensures.1 in
    rw q.1 (λ outer.
    there_caused c.args.types.now c.args.state.now (canon_view c.args.func.now) outer c.args.offset q.0 (caused_same (appends_found (context_of c.args.types.now c.args.state.now) (appended c.args.func.now)) c.args.offset c.in_err-function.field-0.0 q.0 q.2.0 q.2.1 c.in_err-function.ensures.err))

pub returns-in_err-check_room-clause-err : goal.returns-in_err-check_room-clause-err
returns-in_err-check_room-clause-err c =
    let q = err_from_is_err_and c.from_residual-in_err-check_room.result c.from_residual-in_err-check_room.ensures.1 in
    rw q.1 (λ outer.
    room_caused c.args.types.now c.args.state.now (canon_view c.args.func.now) outer c.args.offset q.0 (caused_same (no_room (counts (context_of c.args.types.now c.args.state.now)) is_func) c.args.offset c.in_err-check_room.field-0.0 q.0 q.2.0 q.2.1 c.in_err-check_room.ensures.err))

pub returns-clause-ok : goal.returns-clause-ok
returns-clause-ok c = c.row_facts.ensures ∙ λ j. facts_in c.args.types.now c.args.state.now (canon_view c.args.func.now) (c.in_ok-options.ensures.ok j) (c.in_ok-function.ensures.ok j)

pub returns-clause-free : goal.returns-clause-free
returns-clause-free c = λ outer.
    early_free c.args.types.now c.args.state.now (canon_view c.args.func.now) outer (c.in_ok-check_operands.ensures.ok outer) (c.in_ok-options.ensures.free outer) c.in_ok-function.ensures.free c.in_ok-check_room.ensures.ok
