use Rattle.std.proofs.Common.{◌++◌, take}
use Rattle.wcv_types.specs.EntrySums.{IsTotalOfParts}
use Rattle.wcv_types.specs.Tree.{Extern_name, Role}
use Rattle.wcv_types.specs.Unfold.{Slots, entry_slots, slot_parts, trees}
use Rattle.wcv_types.proofs.entry_facts.entries_total.Given as goal

-- the entries before are added up
abbrev pub invariant-loop-entry : goal.invariant-loop-entry
invariant-loop-entry l =
    (ss : Slots) (role : Extern_name → Role) → IsTotalOfParts l.fn.before (slot_parts (trees l.types.nodes) ss) → IsTotalOfParts l.total (slot_parts (trees l.types.nodes) (ss ++ entry_slots role (take l.entry-index l.entries)))
