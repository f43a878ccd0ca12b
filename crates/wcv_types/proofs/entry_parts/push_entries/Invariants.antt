use Rattle.std.proofs.Common.{◌≡◌, ◌++◌, drop}
use Rattle.wcv_types.specs.Entities.{entry_parts}
use Rattle.wcv_types.proofs.entry_parts.push_entries.Given as goal

abbrev pub invariant-loop-entry : goal.invariant-loop-entry
invariant-loop-entry l = l.parts ++ entry_parts (drop l.entry-index l.entries) ≡ l.initial.parts ++ entry_parts l.entries
