use Rattle.std.proofs.Common.{◌≡◌, drop}
use Rattle.std.specs.Prelude.{bytes_eq}
use Rattle.std.specs.Map.{lookup}
use Rattle.wcv_types.proofs.by_name.walk.Given as goal

-- no pair before has the text
abbrev pub invariant-loop-entry : goal.invariant-loop-entry
invariant-loop-entry g l = lookup (bytes_eq l.key) l.entries ≡ lookup (bytes_eq l.key) (drop l.entry-index l.entries)
