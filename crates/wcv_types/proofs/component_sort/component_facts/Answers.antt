use Rattle.std.proofs.Common.{List, length}
use Rattle.wcv_types.specs.Unfold.{Type_tree, slot_parts, slots_of, trees}
use Rattle.wcv_types.specs.declared.arena.Node.TheVariants as n
use Rattle.wcv_types.proofs.component_sort.component_facts.Goals as goal

pub returns : goal.returns
returns c =
    let ts : List Type_tree = trees c.args.types.now.nodes in
    c.node_facts.ensures (n.Component c.args.shape.now) (length ts) (slot_parts ts (slots_of (n.Component c.args.shape.now))) tt c.component_total-total.ensures.refers
    (record { size = c.requires.info.size; depth = c.requires.info.depth })
