use Rattle.std.proofs.Common.{List, length}
use Rattle.wcv_types.specs.Unfold.{Type_tree, slot_parts, slots_of, trees}
use Rattle.wcv_types.specs.declared.arena.Node.TheVariants as n
use Rattle.wcv_types.proofs.core_instance_sort.core_instance_facts.Goals as goal

pub returns : goal.returns
returns c =
    let ts : List Type_tree = trees c.args.types.now.nodes in
    c.node_facts.ensures (n.CoreInstance c.args.shape.now) (length ts) (slot_parts ts (slots_of (n.CoreInstance c.args.shape.now))) tt c.refers.ensures
    (record { size = c.requires.info.size; depth = c.requires.info.depth })
