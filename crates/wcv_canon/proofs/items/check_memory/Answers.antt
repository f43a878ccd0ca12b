use Rattle.std.proofs.Common.{subst, inr}
use Rattle.std.specs.Prelude.{slice_get}
use Rattle.std.proofs.lemmas.Result.{err_from_is_err_and, on_ok_weaker, IfErr-weaker}
use Rattle.wcv_core.specs.declared.features.WasmFeatures.{WasmFeatures}
use Rattle.wcv_core.proofs.Closing.{caused_same}
use Rattle.wcv_lower.specs.CanonOptions.{memory_rules}
use Rattle.wcv_lower.specs.Checks.{IsFree, missing}
use Rattle.wcv_spaces.specs.Promises.{MemoryOrCausedBy}
use Rattle.wcv_canon.proofs.Found.{memory_missing, memory_free, memory_refused}
use Rattle.wcv_canon.proofs.items.check_memory.Goals as goal

pub returns-in_err-ty-clause-err : goal.returns-in_err-ty-clause-err
returns-in_err-ty-clause-err c =
    let p = err_from_is_err_and c.from_residual.result c.from_residual.ensures.1 in
    rw p.1 (memory_missing c.args.types.now c.args.state.now c.args.index c.args.state.now.features c.args.offset p.0
    (caused_same (missing (slice_get c.args.state.now.spaces.core_memories c.args.index)) c.args.offset c.in_err-ty.field-0.0 p.0 p.2.0 p.2.1 (inr c.in_err-ty.ensures.err)))

pub returns-clause-ok : goal.returns-clause-ok
returns-clause-ok c =
    on_ok_weaker c.check_memory_type.result
    (λ f. memory_free c.args.types.now c.args.state.now c.args.index c.args.state.now.features c.in_ok-ty.ty c.in_ok-ty.ensures.ok (subst (λ (fs : WasmFeatures). IsFree (memory_rules fs c.in_ok-ty.ty)) c.features.ensures f))
    c.check_memory_type.ensures.ok

pub returns-clause-err : goal.returns-clause-err
returns-clause-err c =
    IfErr-weaker c.check_memory_type.result _ _
    (λ e t. memory_refused c.args.types.now c.args.state.now c.args.index c.args.state.now.features c.args.offset e c.in_ok-ty.ty c.in_ok-ty.ensures.ok (subst (λ (fs : WasmFeatures). MemoryOrCausedBy (memory_rules fs c.in_ok-ty.ty) c.args.offset e) c.features.ensures t))
    c.check_memory_type.ensures.err
