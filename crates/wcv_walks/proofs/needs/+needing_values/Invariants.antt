use Rattle.std.proofs.Common.{◌+◌, ◌*◌}
use Rattle.wcv_walks.specs.Needing.{beside, AllSeen}
use Rattle.wcv_types.specs.Unfold.{parts_in, defined_slots, trees}
use Rattle.wcv_types.proofs.Gathered.{ranks}
use Rattle.wcv_types.proofs.NamedBySet.{value_rank, named_from}
use Rattle.wcv_walks.proofs.Needing.{Left}
use Rattle.wcv_walks.proofs.needs.+needing_values.Given as goal

abbrev pub decreases-need_value : goal.decreases-need_value
decreases-need_value l = 2 * value_rank l.ty

abbrev pub decreases-need_defined : goal.decreases-need_defined
decreases-need_defined l = 2 * ranks (parts_in (defined_slots l.shape.now)) + 1

-- those before are gone through, and what was seen is named where all that is needed is
abbrev pub invariant-need_defined-loop-k : goal.invariant-need_defined-loop-k
invariant-need_defined-loop-k l =
    Left l.types (λ ids. named_from (beside ids l.created l.set) (trees l.types.nodes) l.shape 0) (λ ids. named_from (beside ids l.created l.set) (trees l.types.nodes) l.shape l.k) l.fn.needed l.needed ×
    AllSeen l.types l.created l.set l.needed l.seen
