use Rattle.std.proofs.Common.{subst}
use Rattle.std.proofs.lemmas.Result.{on_ok_weaker, IfErr-weaker}
use Rattle.wcv_syntax.specs.View.{canon_view}
use Rattle.wcv_lower.specs.Checks.{Checks, IsFree}
use Rattle.wcv_spaces.specs.Promises.{MemoryOrCausedBy}
use Rattle.wcv_canon.proofs.Rows.{asks_row, operands_free, operands_caused}
use Rattle.wcv_canon.proofs.asks.check_operands.Goals as goal

pub returns-clause-ok : goal.returns-clause-ok
returns-clause-ok c =
    let row = asks_row c.args.types.now c.args.state.now c.listed.result.now c.row_of-row.result (canon_view c.args.func.now) c.listed.ensures c.row_of-row.ensures in
    on_ok_weaker c.check_asks.result (λ h outer. operands_free c.args.types.now c.args.state.now outer (canon_view c.args.func.now) (subst IsFree row h)) c.check_asks.ensures.ok

pub returns-clause-err : goal.returns-clause-err
returns-clause-err c =
    let row = asks_row c.args.types.now c.args.state.now c.listed.result.now c.row_of-row.result (canon_view c.args.func.now) c.listed.ensures c.row_of-row.ensures in
    IfErr-weaker c.check_asks.result _ _
    (λ e h outer. operands_caused c.args.types.now c.args.state.now outer (canon_view c.args.func.now) c.args.offset e (subst (λ (cs : Checks). MemoryOrCausedBy cs c.args.offset e) row h)) c.check_asks.ensures.err
