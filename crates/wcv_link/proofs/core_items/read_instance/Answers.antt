use Rattle.std.proofs.Common.{refl}
use Rattle.std.proofs.lemmas.Result.{err_from_is_err_and, on_ok_weaker, IfErr-weaker}
use Rattle.wcv_core.proofs.Closing.{caused_same}
use Rattle.wcv_syntax.specs.Model.{Form, instance_item}
use Rattle.wcv_syntax.specs.View.{instance_view}
use Rattle.wcv_types.proofs.Grown.{extends_refl}
use Rattle.wcv_lower.specs.Instances.{instance_left}
use Rattle.wcv_spaces.proofs.Keeping.{keeps_grown}
use Rattle.wcv_link.proofs.Steps.{one_step, item_taken, item_refused, bare_refused}
use Rattle.wcv_link.proofs.core_items.read_instance.Goals as goal

pub returns-in_err-check_component_instance_limits-clause-err : goal.returns-in_err-check_component_instance_limits-clause-err
returns-in_err-check_component_instance_limits-clause-err c =
    let p = err_from_is_err_and c.from_residual.result c.from_residual.ensures.1 in
    let f : Form = instance_item (instance_view c.args.instance) in
    rw p.1
    (bare_refused c.args.types.now c.args.state.now f c.args.offset p.0 (one_step f refl)
    (caused_same (instance_left (instance_view c.args.instance)) c.args.offset c.in_err-check_component_instance_limits.field-0.0 p.0 p.2.0 p.2.1 c.in_err-check_component_instance_limits.ensures.err))

pub returns-in_err-check_component_instance_limits-clause-keeps : goal.returns-in_err-check_component_instance_limits-clause-keeps
returns-in_err-check_component_instance_limits-clause-keeps c = keeps_grown c.args.types.now c.args.types.now c.args.state.now (extends_refl c.args.types.now) c.requires.open.stands

pub returns-clause-ok : goal.returns-clause-ok
returns-clause-ok c =
    let f : Form = instance_item (instance_view c.args.instance) in
    on_ok_weaker c.add_instance.result
    (λ g. item_taken c.args.types.now c.add_instance.new.types c.args.state.now c.add_instance.new.self f (one_step f refl) c.in_ok-check_component_instance_limits.ensures.ok
    g c.add_instance.ensures.keeps)
    c.add_instance.ensures.ok

pub returns-clause-err : goal.returns-clause-err
returns-clause-err c =
    let f : Form = instance_item (instance_view c.args.instance) in
    IfErr-weaker c.add_instance.result _ _
    (λ e g. item_refused c.args.types.now c.add_instance.new.types c.args.state.now f (one_step f refl) c.args.offset e c.add_instance.ensures.keeps.arena (λ outer p. (g outer p).1))
    c.add_instance.ensures.err

pub add_instance-requires-clause-opens : goal.add_instance-requires-clause-opens
add_instance-requires-clause-opens c = c.requires.opens (instance_view c.args.instance)
