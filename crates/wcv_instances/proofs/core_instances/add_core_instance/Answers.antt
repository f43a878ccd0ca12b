use Rattle.std.proofs.Common.{ap, refl, subst, sym, true}
use Rattle.wcv_syntax.specs.View.{core_instance_view}
use Rattle.wcv_spaces.specs.Contents.{Contents}
use Rattle.wcv_spaces.specs.Promises.{Keeps}
use Rattle.wcv_spaces.proofs.Keeping.{keeps_marked}
use Rattle.wcv_instances.proofs.CoreInstances.{instance_grew, instance_refused, memory_caused}
use Rattle.wcv_instances.proofs.core_instances.add_core_instance.Goals as goal

pub returns-in-Ok-join_instance-clause-ok : goal.returns-in-Ok-join_instance-clause-ok
returns-in-Ok-join_instance-clause-ok c = λ outer q.
    instance_grew c.args.types.now c.join_instance.new.types c.args.state.now c.join_instance.new.state (core_instance_view c.args.instance) c.in-Ok.shape c.in-Ok.ensures.made c.in-Ok-join_instance.ensures.ok c.in-Ok.ensures.free outer q

pub returns-in-Err-join_instance-clause-err : goal.returns-in-Err-join_instance-clause-err
returns-in-Err-join_instance-clause-err c = λ outer q.
    instance_refused c.args.types.now c.join_instance.new.types c.args.state.now c.join_instance.new.state (core_instance_view c.args.instance) c.args.offset c.from.result c.in-Err-join_instance.ensures.spent
    (memory_caused c.args.types.now c.args.state.now (core_instance_view c.args.instance) c.args.offset c.from.result c.from.ensures) outer q

pub returns-in-Err-clause-err : goal.returns-in-Err-clause-err
returns-in-Err-clause-err c = λ outer q.
    instance_refused c.args.types.now c.args.types.now c.args.state.now c.mark_spent.new.self (core_instance_view c.args.instance) c.args.offset c.in-Err.error (ap (λ (z : Contents). z.spent) c.mark_spent.ensures) c.in-Err.ensures.err outer q

pub returns-in-Err-clause-keeps : goal.returns-in-Err-clause-keeps
returns-in-Err-clause-keeps c =
    subst (λ (z : Contents). Keeps c.args.types.now c.args.types.now c.args.state.now z) (sym c.mark_spent.ensures)
    (keeps_marked c.args.types.now c.args.state.now c.args.state.now true refl c.requires.open.stands)
