use Rattle.std.proofs.Common.{◌∙◌, ◌++◌, ◌∷◌, [], List, take, append_assoc, ap, subst, sym}
use Rattle.wcv_types.specs.EntrySums.{IsTotalOfParts}
use Rattle.wcv_types.specs.Tree.{Role}
use Rattle.wcv_types.specs.Unfold.{Type_tree, Slot, Slots, entity_slot, entry_name, entry_slots, slot_parts, trees}
use Rattle.wcv_types.proofs.EntryLists.{Entry}
use Rattle.wcv_types.proofs.Totals.{entries_next}
use Rattle.wcv_types.proofs.entry_facts.entries_total.Goals as goal

pub loop-entry-preserved : goal.loop-entry-preserved
loop-entry-preserved c ss role h =
    let ts : List Type_tree = trees c.args.types.now.nodes in
    let e : Entry = c.entry-item.result in
    let before : Slots = entry_slots role (take c.loop-entry.entry-index c.args.entries.now) in
    let s : Role × Slot = (role (entry_name e), entity_slot e.1.ty) in
    subst (λ (xs : Slots). IsTotalOfParts c.add-total.result (slot_parts ts xs))
    (append_assoc ss before (s ∷ []) ∙ ap (λ (xs : Slots). ss ++ xs) (sym (entries_next role c.args.entries.now c.loop-entry.entry-index e c.loop-entry-test.true c.entry-item.is)))
    (c.add-total.ensures ts (ss ++ before) s (c.loop-entry.invariant ss role h) c.entity_total.ensures)
