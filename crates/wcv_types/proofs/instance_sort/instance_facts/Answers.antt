use Rattle.std.proofs.Common.{[], List, length, subst, sym}
use Rattle.std.specs.Prelude.{All}
use Rattle.wcv_types.specs.Entities.{EntryStands}
use Rattle.wcv_types.specs.EntrySums.{IsTotalOfParts}
use Rattle.wcv_types.specs.Tree.{export}
use Rattle.wcv_types.specs.Unfold.{Type_tree, entry_slots, slot_parts, slots_of, trees}
use Rattle.wcv_types.specs.declared.arena.Node.TheVariants as n
use Rattle.wcv_types.proofs.EntryLists.{Entry}
use Rattle.wcv_types.proofs.Totals.{entries_stand}
use Rattle.wcv_types.proofs.instance_sort.instance_facts.Goals as goal

pub entries_total-total-requires : goal.entries_total-total-requires
entries_total-total-requires c = subst (λ (es : List Entry). All (EntryStands c.args.types.now) es) (sym c.as_slice.ensures) (entries_stand export c.args.types.now c.args.shape.now.exports c.requires.parts)

pub returns : goal.returns
returns c =
    let ts : List Type_tree = trees c.args.types.now.nodes in
    c.node_facts.ensures (n.Instance c.args.shape.now) (length ts) (slot_parts ts (slots_of (n.Instance c.args.shape.now))) tt
    (subst (λ (es : List Entry). IsTotalOfParts c.entries_total-total.result (slot_parts ts (entry_slots export es))) c.as_slice.ensures (c.entries_total-total.ensures [] export c.new.ensures)).refers
    (record { size = c.requires.info.size; depth = c.requires.info.depth })
