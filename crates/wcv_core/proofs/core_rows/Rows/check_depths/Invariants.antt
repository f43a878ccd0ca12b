use Rattle.wcv_core.specs.Limits.{max_supertypes}
use Rattle.std.proofs.Common.{ℕ, ◌+◌, ◌<◌, ◌≤◌, get_or}
use Rattle.wcv_core.specs.CoreGroups.{depths_of}
use Rattle.wcv_core.proofs.core_rows.Rows.check_depths.Given as goal

abbrev pub invariant-loop-position : goal.invariant-loop-position
invariant-loop-position l = record {
  low : (k : ℕ) → k < l.position → get_or (depths_of l.self) (l.first + k) 0 ≤ max_supertypes;
}
