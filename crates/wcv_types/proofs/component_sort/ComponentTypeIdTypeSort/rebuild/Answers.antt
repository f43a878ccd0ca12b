use Rattle.wcv_types.specs.declared.arena.Node.TheVariants as n
use Rattle.wcv_types.proofs.ComponentsRebuilt.{component_led, component_owned, component_sorts, component_made}
use Rattle.wcv_types.proofs.component_sort.ComponentTypeIdTypeSort.rebuild.Goals as goal

pub component_again-requires-clause-sorts : goal.component_again-requires-clause-sorts
component_again-requires-clause-sorts c = component_sorts c.args.types.now c.args.self c.node.result.now c.args.parts.now c.node.ensures.found c.node.ensures.unfolds c.requires.refits

pub component_again-requires-clause-owned : goal.component_again-requires-clause-owned
component_again-requires-clause-owned c = component_owned c.args.types.now c.args.self c.node.result.now c.args.parts.now c.node.ensures.found c.node.ensures.unfolds c.names_given.ensures c.requires.stands

pub component_again-requires-clause-led : goal.component_again-requires-clause-led
component_again-requires-clause-led c = component_led c.args.types.now c.args.self c.node.result.now c.args.parts.now c.node.ensures.found c.node.ensures.unfolds c.requires.refits

pub component_again-requires-clause-apart : goal.component_again-requires-clause-apart
component_again-requires-clause-apart c = (c.nodes_fit.ensures.again c.args.self.index (n.Component c.node.result.now) c.node.ensures.found).apart

pub returns-clause-ok : goal.returns-clause-ok
returns-clause-ok c =
    component_made _ c.args.self c.node.result.now c.args.parts.now c.node.ensures.found c.node.ensures.unfolds _ c.in_ok-made.made c.in_ok-shape.shape
    c.in_ok-shape.ensures.slots c.in_ok-shape.ensures.imported c.in_ok-shape.ensures.defined c.in_ok-made.ensures.added c.in_ok-made.ensures.last c.in_ok-made.ensures.stands
