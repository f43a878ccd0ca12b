use Rattle.std.specs.List.{range_with_len}
use Rattle.wcv_core.specs.Checks.{IsFree, all_checks}
use Rattle.wcv_core.specs.CoreRules.{type_checks}
use Rattle.wcv_core.proofs.core_rows.Rows.check_types.Given as goal

abbrev pub invariant-loop-position : goal.invariant-loop-position
invariant-loop-position l = record {
  free : IsFree (all_checks (type_checks l.self) (range_with_len l.first l.position));
}
