use Rattle.std.proofs.Common.{sym, inr}
use Rattle.std.specs.Prelude.{slice_get}
use Rattle.std.proofs.lemmas.Result.{err_from_is_err_and}
use Rattle.wcv_core.proofs.Closing.{caused_same}
use Rattle.wcv_lower.specs.Checks.{missing}
use Rattle.wcv_canon.proofs.Found.{spawn_table_missing, spawn_table_free, spawn_table_other}
use Rattle.wcv_canon.proofs.ask_core.check_spawn_table.Goals as goal

pub returns-in_err-ty-clause-err : goal.returns-in_err-ty-clause-err
returns-in_err-ty-clause-err c =
    let p = err_from_is_err_and c.from_residual.result c.from_residual.ensures.1 in
    rw p.1 (spawn_table_missing c.args.types.now c.args.state.now c.args.index c.args.offset p.0
    (caused_same (missing (slice_get c.args.state.now.spaces.core_tables c.args.index)) c.args.offset c.in_err-ty.field-0.0 p.0 p.2.0 p.2.1 (inr c.in_err-ty.ensures.err)))

pub returns-then-is_spawn_table-clause-ok : goal.returns-then-is_spawn_table-clause-ok
returns-then-is_spawn_table-clause-ok c = spawn_table_free c.args.types.now c.args.state.now c.args.index c.in_ok-ty.ty c.in_ok-ty.ensures.ok (sym c.if-is_spawn_table.ensures)

pub returns-clause-err : goal.returns-clause-err
returns-clause-err c = spawn_table_other c.args.types.now c.args.state.now c.args.index c.args.offset c.other.result c.in_ok-ty.ty c.in_ok-ty.ensures.ok (sym c.if-is_spawn_table.ensures) c.other.ensures.kind c.other.ensures.offset
