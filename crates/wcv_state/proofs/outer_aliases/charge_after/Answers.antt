use Rattle.std.proofs.Common.{sym, subst, arith}
use Rattle.std.specs.Prelude.{Option, IfErr}
use Rattle.wcv_lower.specs.Checks.{if_found}
use Rattle.wcv_state.specs.Aliasing.{aliased_tree, boundary_checks}
use Rattle.wcv_spaces.specs.Contents.{Contents}
use Rattle.wcv_spaces.specs.Promises.{MemoryOrCausedBy}
use Rattle.wcv_state.proofs.OuterCalls.{after_there}
use Rattle.wcv_state.proofs.outer_aliases.charge_after.Goals as goal

pub returns-clause-err : goal.returns-clause-err
returns-clause-err c =
    let ss = c.args.components.now in
    let t = c.index-components-components.result in
    subst (λ (o : Option Contents). IfErr c.charge_for.result (MemoryOrCausedBy (if_found (λ s. boundary_checks c.args.kind s (aliased_tree c.args.types.now c.args.item.now)) o) c.args.offset)) (sym (after_there ss c.args.reach t c.if-reach-eq0.false (omega arith) c.index-components-components.is))
    c.charge_for.ensures.err
