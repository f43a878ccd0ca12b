use Rattle.std.proofs.Common.{◌++◌, List, [], subst, sym}
use Rattle.std.specs.Prelude.{All}
use Rattle.wcv_types.specs.Entities.{EntryStands}
use Rattle.wcv_types.specs.EntrySums.{IsTotalOfParts}
use Rattle.wcv_types.specs.Standing.{Stands}
use Rattle.wcv_types.specs.Tree.{import, export}
use Rattle.wcv_types.specs.Unfold.{Type_tree, entry_slots, parts_in, slot_parts, trees}
use Rattle.wcv_types.proofs.EntryLists.{Entry}
use Rattle.wcv_types.proofs.Knowing.{parts_in-append}
use Rattle.wcv_types.proofs.Totals.{entries_stand}
use Rattle.wcv_types.proofs.Unfolding.{all_left, all_right}
use Rattle.wcv_types.proofs.component_sort.component_total.Goals as goal

pub entries_total-total-requires : goal.entries_total-total-requires
entries_total-total-requires c =
    let both : All (Stands c.args.types.now) (parts_in (entry_slots import c.args.imports.now) ++ parts_in (entry_slots export c.args.exports.now)) =
    subst (All (Stands c.args.types.now)) (parts_in-append (entry_slots import c.args.imports.now) (entry_slots export c.args.exports.now)) c.requires in
    subst (λ (es : List Entry). All (EntryStands c.args.types.now) es) (sym c.as_slice.ensures)
    (entries_stand import c.args.types.now c.args.imports.now (all_left (Stands c.args.types.now) (parts_in (entry_slots import c.args.imports.now)) (parts_in (entry_slots export c.args.exports.now)) both))

pub entries_total-requires : goal.entries_total-requires
entries_total-requires c =
    let both : All (Stands c.args.types.now) (parts_in (entry_slots import c.args.imports.now) ++ parts_in (entry_slots export c.args.exports.now)) =
    subst (All (Stands c.args.types.now)) (parts_in-append (entry_slots import c.args.imports.now) (entry_slots export c.args.exports.now)) c.requires in
    subst (λ (es : List Entry). All (EntryStands c.args.types.now) es) (sym c.as_slice-2.ensures)
    (entries_stand export c.args.types.now c.args.exports.now (all_right (Stands c.args.types.now) (parts_in (entry_slots import c.args.imports.now)) (parts_in (entry_slots export c.args.exports.now)) both))

pub returns : goal.returns
returns c =
    let ts : List Type_tree = trees c.args.types.now.nodes in
    let first : IsTotalOfParts c.entries_total-total.result (slot_parts ts (entry_slots import c.args.imports.now)) =
    subst (λ (es : List Entry). IsTotalOfParts c.entries_total-total.result (slot_parts ts (entry_slots import es))) c.as_slice.ensures (c.entries_total-total.ensures [] import c.new.ensures) in
    subst (λ (es : List Entry). IsTotalOfParts c.entries_total.result (slot_parts ts (entry_slots import c.args.imports.now ++ entry_slots export es))) c.as_slice-2.ensures
    (c.entries_total.ensures (entry_slots import c.args.imports.now) export first)
