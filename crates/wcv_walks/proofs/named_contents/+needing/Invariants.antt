use Rattle.std.proofs.Common.{◌+◌, ◌*◌}
use Rattle.wcv_types.specs.Entities.{any_part, entity_slot}
use Rattle.wcv_walks.specs.Needing.{AllNeeded, AllSeen}
use Rattle.wcv_types.specs.Unfold.{rank}
use Rattle.wcv_types.specs.declared.ids.Part.TheVariants as part
use Rattle.wcv_walks.proofs.FreeBelow.{slot_rank, entries_rank}
use Rattle.wcv_walks.proofs.Needing.{GoneThrough}
use Rattle.wcv_walks.proofs.named_contents.+needing.Given as goal

abbrev pub decreases-need_instance : goal.decreases-need_instance
decreases-need_instance l = 6 * rank (part.Instance l.id)

abbrev pub decreases-need_type : goal.decreases-need_type
decreases-need_type l = 6 * rank (any_part l.id) + 1

abbrev pub decreases-need_entity : goal.decreases-need_entity
decreases-need_entity l = 6 * slot_rank (entity_slot l.ty) + 2

abbrev pub decreases-needs_of_exports : goal.decreases-needs_of_exports
decreases-needs_of_exports l = 6 * entries_rank l.exports.now + 5

abbrev pub decreases-need_exports : goal.decreases-need_exports
decreases-need_exports l = 6 * entries_rank l.exports.now + 4

abbrev pub decreases-need_each : goal.decreases-need_each
decreases-need_each l = 6 * entries_rank l.exports.now + 3

-- those before are gone through, what they created is kept apart, and what was seen is named where all that is needed is
abbrev pub invariant-need_each-loop-entry : goal.invariant-need_each-loop-entry
invariant-need_each-loop-entry l =
    GoneThrough l.types l.set l.exports l.entry-index l.created l.needed × AllNeeded l.types l.set l.known ×
    AllSeen l.types l.created l.set l.needed l.seen
