use Rattle.std.proofs.Common.{◌≡◌, drop}
use Rattle.std.specs.Prelude.{slice_get}
use Rattle.wcv_types.specs.Entities.{entry_parts}
use Rattle.wcv_types.proofs.entry_parts.nth_entry_part.Given as goal

-- the part that is sought is the left-th of those that are left
abbrev pub invariant-loop-entry : goal.invariant-loop-entry
invariant-loop-entry l = slice_get (entry_parts l.entries) l.fn.k ≡ slice_get (entry_parts (drop l.entry-index l.entries)) l.left
