use Rattle.std.proofs.Common.{take, ◌∙◌, ap}
use Rattle.std.proofs.lemmas.Result.{err_from_is_err_and}
use Rattle.wcv_spaces.specs.Contents.{Contents, spent}
use Rattle.wcv_instances.proofs.UsedEach.{none_used, use_next, next_caused, all_used}
use Rattle.wcv_instances.proofs.component_instances.use_values.Goals as goal

pub loop-value-init : goal.loop-value-init
loop-value-init c = none_used c.args.state.now c.args.values.now

pub use_item-requires : goal.use_item-requires
use_item-requires c = record { live = ap (λ (z : Contents). z.spent) c.loop-value.invariant.state ∙ c.requires.live }

pub returns-in_err-use_item-clause-err : goal.returns-in_err-use_item-clause-err
returns-in_err-use_item-clause-err c =
    let p = err_from_is_err_and c.from_residual.result c.from_residual.ensures.1 in
    rw (p.1, p.2) (next_caused c.args.state.now c.args.values.now c.loop-value.state c.loop-value.value-index _ c.loop-value-test.true c.loop-value.invariant c.args.offset c.in_err-use_item.field-0.0 c.in_err-use_item.ensures.err)

pub returns-in_err-use_item-clause-left : goal.returns-in_err-use_item-clause-left
returns-in_err-use_item-clause-left c =
    let p = err_from_is_err_and c.from_residual.result c.from_residual.ensures.1 in
    rw p.1 (take c.loop-value.value-index c.args.values.now, c.in_err-use_item.ensures.left ∙ ap spent c.loop-value.invariant.state)

pub loop-value-preserved : goal.loop-value-preserved
loop-value-preserved c =
    use_next c.args.state.now c.args.values.now c.loop-value.state c.loop-value.value-index _ c.loop-value-test.true c.loop-value.invariant c.use_item.new.self c.in_ok-use_item.ensures.ok c.in_ok-use_item.ensures.free

pub returns-clause-ok : goal.returns-clause-ok
returns-clause-ok c = (all_used c.args.state.now c.args.values.now c.loop-value.state c.loop-value.value-index c.loop-value-test.false c.loop-value.invariant).0

pub returns-clause-free : goal.returns-clause-free
returns-clause-free c = (all_used c.args.state.now c.args.values.now c.loop-value.state c.loop-value.value-index c.loop-value-test.false c.loop-value.invariant).1
