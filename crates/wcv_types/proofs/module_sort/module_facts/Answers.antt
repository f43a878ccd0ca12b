use Rattle.std.proofs.Common.{List, length, sym}
use Rattle.wcv_types.specs.Unfold.{Type_tree, module_slots, slot_parts, trees}
use Rattle.wcv_types.specs.declared.arena.Node.TheVariants as n
use Rattle.wcv_types.proofs.ModulesRebuilt.{module_items, no_mentions}
use Rattle.wcv_types.proofs.module_sort.module_facts.Goals as goal

pub returns : goal.returns
returns c =
    let ts : List Type_tree = trees c.args.types.now.nodes in
    c.node_facts.ensures (n.Module c.args.shape.now) (length ts) (slot_parts ts (module_slots c.args.shape.now)) tt
    (sym (no_mentions ts (module_slots c.args.shape.now) (module_items c.args.shape.now)))
    (record { size = c.requires.info.size; depth = c.requires.info.depth })
