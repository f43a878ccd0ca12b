use Rattle.std.proofs.Common.{◌+◌, ◌*◌}
use Rattle.wcv_types.specs.Entities.{entity_slot}
use Rattle.wcv_types.specs.Unfold.{rank}
use Rattle.wcv_types.specs.declared.ids.Part.TheVariants as part
use Rattle.wcv_walks.proofs.FreeBelow.{slot_rank, entries_rank}
use Rattle.wcv_spaces.specs.Naming.{side_of}
use Rattle.wcv_spaces.proofs.Named.{PassedTo}
use Rattle.wcv_spaces.proofs.naming.+naming.Given as goal

abbrev pub decreases-pass_instance : goal.decreases-pass_instance
decreases-pass_instance l = 3 * rank (part.Instance l.id)

abbrev pub decreases-pass_entity : goal.decreases-pass_entity
decreases-pass_entity l = 3 * slot_rank (entity_slot l.ty) + 1

abbrev pub decreases-pass_exports : goal.decreases-pass_exports
decreases-pass_exports l = 3 * entries_rank l.exports.now + 2

-- those before pass, and what they create is named
abbrev pub invariant-pass_exports-loop-k : goal.invariant-pass_exports-loop-k
invariant-pass_exports-loop-k l = PassedTo l.types (side_of l.which) l.fn.sets l.sets l.passed l.exports l.k
