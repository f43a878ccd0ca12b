use Rattle.std.proofs.Common.{take, ◌+◌, ◌*◌}
use Rattle.wcv_types.specs.Gathering.{Gains, FreeInSome, AllGathered, AllKnown}
use Rattle.wcv_types.specs.Unfold.{rank}
use Rattle.wcv_types.proofs.Gathered.{ranks}
use Rattle.wcv_walks.proofs.free_variables.+free_below.Given as goal

abbrev pub decreases-free_in_part : goal.decreases-free_in_part
decreases-free_in_part l = 6 * rank l.part + 4

abbrev pub decreases-free_in_node : goal.decreases-free_in_node
decreases-free_in_node l = 6 * rank l.part + 3

abbrev pub decreases-free_in_scope : goal.decreases-free_in_scope
decreases-free_in_scope l = 6 * rank l.part + 2

abbrev pub decreases-free_in_owner : goal.decreases-free_in_owner
decreases-free_in_owner l = 6 * rank l.part + 1

abbrev pub decreases-free_within : goal.decreases-free_within
decreases-free_within l = 6 * ranks l.parts.now + 6

abbrev pub decreases-free_in_list : goal.decreases-free_in_list
decreases-free_in_list l = 6 * ranks l.parts.now + 5

-- what is free in the parts before has joined
abbrev pub invariant-free_in_list-loop-part : goal.invariant-free_in_list-loop-part
invariant-free_in_list-loop-part l = record {
  gains : Gains (λ r. FreeInSome l.types r (take l.part-index l.parts)) l.fn.free l.free;
  known : AllKnown l.types l.known;
  gathered : AllGathered l.types l.seen l.free;
}
