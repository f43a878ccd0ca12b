use Rattle.std.proofs.Common.{◌≡◌, drop}
use Rattle.std.specs.Map.{lookup}
use Rattle.wcv_core.specs.TextSet.{same_pair}
use Rattle.wcv_types.proofs.core_maps.ImportMap.get.Given as goal

-- no pair before has the names
abbrev pub invariant-loop-entry : goal.invariant-loop-entry
invariant-loop-entry l = lookup (same_pair l.key) l.self ≡ lookup (same_pair l.key) (drop l.entry-index l.self)
