use Rattle.std.proofs.Common.{◌≡◌, suc, ◌+◌, ◌*◌}
use Rattle.wcv_types.specs.Entities.{entity_slot}
use Rattle.wcv_walks.specs.ExplicitPaths.{AllFound}
use Rattle.wcv_types.specs.Unfold.{trees}
use Rattle.wcv_walks.proofs.Finding.{Rest}
use Rattle.wcv_walks.proofs.FreeBelow.{slot_rank, entries_rank}
use Rattle.wcv_walks.proofs.explicit_paths.+finding.Given as goal

abbrev pub decreases-find_in_instance : goal.decreases-find_in_instance
decreases-find_in_instance l = 4 * suc l.id.index + 1

abbrev pub decreases-find_in_exports : goal.decreases-find_in_exports
decreases-find_in_exports l = 4 * suc l.id.index

abbrev pub decreases-find_at : goal.decreases-find_at
decreases-find_at l = 4 * slot_rank (entity_slot l.ty) + 2

abbrev pub decreases-find_among : goal.decreases-find_among
decreases-find_among l = 4 * entries_rank l.entries.now + 3

-- the path is as it was, and what is to be found from here on is what is left
abbrev pub invariant-find_among-loop-k : goal.invariant-find_among-loop-k
invariant-find_among-loop-k l = record {
  path : l.path.items ≡ l.fn.path.items;
  rest : Rest l.ids l.fn.path.items (trees l.types.nodes) l.entries l.k l.fn.found l.found;
  seen : AllFound l.types l.ids l.seen l.found;
}
