use Rattle.std.proofs.Common.{sym, subst, inr}
use Rattle.std.specs.Prelude.{slice_get}
use Rattle.std.proofs.lemmas.Result.{err_from_is_err_and, on_ok_weaker, IfErr-weaker}
use Rattle.wcv_core.specs.CoreFeatures.{needs}
use Rattle.wcv_core.specs.declared.features.WasmFeatures.{WasmFeatures}
use Rattle.wcv_core.proofs.Closing.{caused_same}
use Rattle.wcv_lower.specs.Checks.{IsFree, missing}
use Rattle.wcv_core.specs.Features.{cm64}
use Rattle.wcv_spaces.specs.Promises.{MemoryOrCausedBy}
use Rattle.wcv_canon.proofs.Found.{start_table_missing, start_table_free, start_table_needs, start_table_other}
use Rattle.wcv_canon.proofs.ask_core.check_start_table.Goals as goal

pub returns-in_err-ty-clause-err : goal.returns-in_err-ty-clause-err
returns-in_err-ty-clause-err c =
    let p = err_from_is_err_and c.from_residual.result c.from_residual.ensures.1 in
    rw p.1 (start_table_missing c.args.types.now c.args.state.now c.args.index c.args.offset p.0
    (caused_same (missing (slice_get c.args.state.now.spaces.core_tables c.args.index)) c.args.offset c.in_err-ty.field-0.0 p.0 p.2.0 p.2.1 (inr c.in_err-ty.ensures.err)))

pub returns-then-is_func_table-clause-ok : goal.returns-then-is_func_table-clause-ok
returns-then-is_func_table-clause-ok c =
    on_ok_weaker c.require.result
    (λ f. start_table_free c.args.types.now c.args.state.now c.args.index c.in_ok-ty.ty c.in_ok-ty.ensures.ok (sym c.if-is_func_table.ensures) (subst (λ (fs : WasmFeatures). IsFree (needs fs cm64 c.in_ok-ty.ty.table64)) c.features.ensures f))
    c.require.ensures.ok

pub returns-then-is_func_table-clause-err : goal.returns-then-is_func_table-clause-err
returns-then-is_func_table-clause-err c =
    IfErr-weaker c.require.result _ _
    (λ e t. start_table_needs c.args.types.now c.args.state.now c.args.index c.in_ok-ty.ty c.in_ok-ty.ensures.ok c.args.offset e (subst (λ (fs : WasmFeatures). MemoryOrCausedBy (needs fs cm64 c.in_ok-ty.ty.table64) c.args.offset e) c.features.ensures t))
    c.require.ensures.err

pub returns-clause-err : goal.returns-clause-err
returns-clause-err c = start_table_other c.args.types.now c.args.state.now c.args.index c.in_ok-ty.ty c.in_ok-ty.ensures.ok c.args.offset c.other.result (sym c.if-is_func_table.ensures) c.other.ensures.kind c.other.ensures.offset
