use Rattle.std.proofs.Common.{◌∙◌, ap, inl, inr, subst, sym}
use Rattle.std.proofs.lemmas.Result.{err_from_is_err_and}
use Rattle.wcv_core.proofs.Closing.{caused_same}
use Rattle.wcv_spaces.specs.Bringing.{AreNewIn}
use Rattle.wcv_spaces.specs.Contents.{Contents, StateStands}
use Rattle.wcv_state.specs.Joining.{InstanceJoined}
use Rattle.wcv_spaces.specs.Values.{uses_id_checks}
use Rattle.wcv_spaces.proofs.UsedValues.{uses_stand}
use Rattle.wcv_instances.proofs.InstanceGrown.{spent_kept, then_kept}
use Rattle.wcv_instances.proofs.component_instances.join_made.Goals as goal

pub returns-in_err-use_values-clause-err : goal.returns-in_err-use_values-clause-err
returns-in_err-use_values-clause-err c =
    let p = err_from_is_err_and c.from_residual.result c.from_residual.ensures.1 in
    rw p.1 (caused_same (uses_id_checks c.args.state.now.spaces.values c.args.values.now) c.args.offset c.in_err-use_values.field-0.0 p.0 p.2.0 p.2.1 (inr c.in_err-use_values.ensures.err))

pub returns-in_err-use_values-clause-spent : goal.returns-in_err-use_values-clause-spent
returns-in_err-use_values-clause-spent c =
    let p = err_from_is_err_and c.from_residual.result c.from_residual.ensures.1 in
    rw p.1 (ap (λ (z : Contents). z.spent) c.in_err-use_values.ensures.left.1)

pub returns-in_err-use_values-clause-keeps : goal.returns-in_err-use_values-clause-keeps
returns-in_err-use_values-clause-keeps c = spent_kept c.args.types.now c.args.state.now c.requires.stands c.in_err-use_values.ensures.left.0 c.use_values.new.state c.in_err-use_values.ensures.left.1

pub join_instance-requires-clause-live : goal.join_instance-requires-clause-live
join_instance-requires-clause-live c = ap (λ (z : Contents). z.spent) c.in_ok-use_values.ensures.ok ∙ c.requires.live

pub join_instance-requires-clause-stands : goal.join_instance-requires-clause-stands
join_instance-requires-clause-stands c = subst (StateStands c.args.types.now) (sym c.in_ok-use_values.ensures.ok) (uses_stand c.args.types.now c.args.values.now c.args.state.now c.requires.stands)

pub join_instance-requires-clause-fresh : goal.join_instance-requires-clause-fresh
join_instance-requires-clause-fresh c = subst (λ (z : Contents). AreNewIn z.defined_resources c.args.made.now.resources) (sym c.in_ok-use_values.ensures.ok) c.requires.fresh

pub returns-in_err-join_instance-clause-err : goal.returns-in_err-join_instance-clause-err
returns-in_err-join_instance-clause-err c =
    let p = err_from_is_err_and c.from_residual-in_err-join_instance.result c.from_residual-in_err-join_instance.ensures.1 in
    rw p.1 (inl p.2)

pub returns-in_err-join_instance-clause-keeps : goal.returns-in_err-join_instance-clause-keeps
returns-in_err-join_instance-clause-keeps c = then_kept c.args.types.now c.args.state.now c.requires.stands c.args.values.now c.use_values.new.state c.join_instance.new.self c.in_ok-use_values.ensures.ok c.join_instance.ensures.keeps

pub returns-clause-ok : goal.returns-clause-ok
returns-clause-ok c = subst (λ (z : Contents). InstanceJoined c.args.types.now z c.join_instance.new.self c.args.made.now) c.in_ok-use_values.ensures.ok c.in_ok-join_instance.ensures.ok

pub returns-clause-keeps : goal.returns-clause-keeps
returns-clause-keeps c = then_kept c.args.types.now c.args.state.now c.requires.stands c.args.values.now c.use_values.new.state c.join_instance.new.self c.in_ok-use_values.ensures.ok c.join_instance.ensures.keeps
