use Rattle.std.proofs.Common.{[], List, length, refl, subst, sym}
use Rattle.std.specs.Prelude.{All}
use Rattle.wcv_core.specs.Names.{number}
use Rattle.wcv_types.specs.Entities.{EntryStands}
use Rattle.wcv_types.specs.EntrySums.{IsTotalOfParts}
use Rattle.wcv_types.specs.Tree.{export, instance}
use Rattle.wcv_types.specs.Unfold.{Type_tree, entry_slots, resource_names, slot_parts, trees}
use Rattle.wcv_types.proofs.EntryLists.{Entry}
use Rattle.wcv_types.proofs.InstancesRebuilt.{instance_fits}
use Rattle.wcv_types.proofs.Totals.{entries_stand}
use Rattle.wcv_types.proofs.instance_type.ComponentInstanceType.over.Goals as goal

pub entries_total-total-requires : goal.entries_total-total-requires
entries_total-total-requires c = subst (λ (es : List Entry). All (EntryStands c.args.types.now) es) (sym c.as_slice.ensures) (entries_stand export c.args.types.now c.args.exports c.requires.stand)

pub returns-clause-fits : goal.returns-clause-fits
returns-clause-fits c =
    let ts : List Type_tree = trees c.args.types.now.nodes in
    let total : IsTotalOfParts c.entries_total-total.result (slot_parts ts (entry_slots export c.args.exports)) =
    subst (λ (es : List Entry). IsTotalOfParts c.entries_total-total.result (slot_parts ts (entry_slots export es))) c.as_slice.ensures (c.entries_total-total.ensures [] export c.new.ensures) in
    let info = c.info.ensures (instance (number (length ts)) (resource_names c.args.defined_resources)) (slot_parts ts (entry_slots export c.args.exports)) refl total in
    instance_fits c.args.types.now (record { info = c.info.result; defined_resources = c.args.defined_resources; exports = c.args.exports }) c.requires.stand c.requires.owned c.requires.led c.requires.apart
    (record { size = info.size; depth = info.depth })
