use Rattle.std.proofs.Common.{[], ◌∙◌, refl}
use Rattle.wcv_core.proofs.Coding.{pushed_item, pushed_all}
use Rattle.wcv_instances.proofs.UsedEach.{argument_value, arguments_each}
use Rattle.wcv_instances.proofs.component_instances.argument_values.Goals as goal

pub loop-arg-preserved : goal.loop-arg-preserved
loop-arg-preserved c = pushed_item argument_value [] c.args.args.now c.args.args.now c.loop-arg.arg-index c.arg-item.result refl c.loop-arg-test.true c.arg-item.is c.loop-arg.invariant c.in_ok-add_value.ensures

pub returns : goal.returns
returns c = pushed_all argument_value [] c.args.args.now c.loop-arg.arg-index c.loop-arg-test.false c.loop-arg.invariant ∙ arguments_each c.args.args.now
