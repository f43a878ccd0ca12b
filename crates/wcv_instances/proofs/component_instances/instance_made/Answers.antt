use Rattle.std.proofs.Common.{subst}
use Rattle.wcv_syntax.specs.View.{instance_view}
use Rattle.wcv_syntax.specs.declared.instance.ComponentInstance.{ComponentInstance}
use Rattle.wcv_instances.specs.ComponentInstances.{ItemMayInstantiate}
use Rattle.wcv_instances.proofs.component_instances.instance_made.Goals as goal

pub of_component-requires-clause-opens : goal.of_component-requires-clause-opens
of_component-requires-clause-opens c = subst (λ (i : ComponentInstance). ItemMayInstantiate c.args.types.now c.args.state.now (instance_view i)) c.in-Instantiate.is c.requires.opens
