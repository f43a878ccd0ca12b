use Rattle.std.proofs.Common.{◌≡◌, ◌≤◌, ◌+◌, length, take}
use Rattle.wcv_types.specs.Entities.{entry_parts}
use Rattle.wcv_types.proofs.entry_parts.count_entries.Given as goal

-- those of the entries before are counted
abbrev pub invariant-loop-entry : goal.invariant-loop-entry
invariant-loop-entry l = (l.count ≡ length (entry_parts (take l.entry-index l.entries))) × (l.count ≤ l.entry-index + l.entry-index)
