use Rattle.wcv_types.specs.declared.arena.Node.TheVariants as n
use Rattle.wcv_types.proofs.InstancesRebuilt.{instance_led, instance_owned, instance_sorts, instance_made}
use Rattle.wcv_types.proofs.instance_sort.ComponentInstanceTypeIdTypeSort.rebuild.Goals as goal

pub instance_again-requires-clause-sorts : goal.instance_again-requires-clause-sorts
instance_again-requires-clause-sorts c = instance_sorts c.args.types.now c.args.self c.node.result.now c.args.parts.now c.node.ensures.found c.node.ensures.unfolds c.requires.refits

pub instance_again-requires-clause-owned : goal.instance_again-requires-clause-owned
instance_again-requires-clause-owned c = instance_owned c.args.types.now c.args.self c.node.result.now c.args.parts.now c.node.ensures.found c.node.ensures.unfolds c.names_given.ensures c.requires.stands

pub instance_again-requires-clause-led : goal.instance_again-requires-clause-led
instance_again-requires-clause-led c = instance_led c.args.types.now c.args.self c.node.result.now c.args.parts.now c.node.ensures.found c.node.ensures.unfolds c.requires.refits

pub instance_again-requires-clause-apart : goal.instance_again-requires-clause-apart
instance_again-requires-clause-apart c = (c.nodes_fit.ensures.again c.args.self.index (n.Instance c.node.result.now) c.node.ensures.found).apart

pub returns-clause-ok : goal.returns-clause-ok
returns-clause-ok c =
    instance_made _ c.args.self c.node.result.now c.args.parts.now c.node.ensures.found c.node.ensures.unfolds _ c.in_ok-made.made c.in_ok-shape.shape
    c.in_ok-shape.ensures.slots c.in_ok-shape.ensures.resources c.in_ok-made.ensures.added c.in_ok-made.ensures.last c.in_ok-made.ensures.stands
