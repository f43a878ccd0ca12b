use Rattle.wcv_types.specs.declared.arena.Node.TheVariants as n
use Rattle.wcv_types.proofs.CoreInstancesRebuilt.{core_instance_sorts, core_instance_counts, core_instance_made}
use Rattle.wcv_types.proofs.core_instance_sort.ComponentCoreInstanceTypeIdTypeSort.rebuild.Goals as goal

pub instance_again-requires-clause-fits : goal.instance_again-requires-clause-fits
instance_again-requires-clause-fits c = c.nodes_fit.ensures.again c.args.self.index (n.CoreInstance c.node.result.now) c.node.ensures.found

pub instance_again-requires-clause-sorts : goal.instance_again-requires-clause-sorts
instance_again-requires-clause-sorts c = core_instance_sorts c.args.types.now c.args.self c.node.result.now c.args.parts.now c.node.ensures.found c.node.ensures.unfolds c.requires.refits

pub instance_again-requires-clause-counts : goal.instance_again-requires-clause-counts
instance_again-requires-clause-counts c = core_instance_counts c.args.types.now c.args.self c.node.result.now c.args.parts.now c.node.ensures.found c.node.ensures.unfolds c.requires.refits

pub returns-clause-ok : goal.returns-clause-ok
returns-clause-ok c =
    core_instance_made _ c.args.self c.node.result.now c.args.parts.now c.node.ensures.found c.node.ensures.unfolds _ c.in_ok-made.made c.in_ok-shape.shape
    c.in_ok-shape.ensures.slots c.in_ok-shape.ensures.size c.in_ok-made.ensures.added c.in_ok-made.ensures.last c.in_ok-made.ensures.stands
