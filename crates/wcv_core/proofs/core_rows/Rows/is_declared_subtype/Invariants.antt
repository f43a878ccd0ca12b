use Rattle.std.proofs.Common.{◌≡◌, ◌<◌}
use Rattle.wcv_core.specs.CoreGroups.{total}
use Rattle.wcv_core.specs.CoreAbove.{is_declared}
use Rattle.wcv_core.proofs.core_rows.Rows.is_declared_subtype.Given as goal

abbrev pub invariant-loop-at : goal.invariant-loop-at
invariant-loop-at l = record {
  stands : l.at < total l.self;
  same : is_declared l.self l.fn.a.index l.b.index ≡ is_declared l.self l.at l.b.index;
}

abbrev pub decreases-loop-at : goal.decreases-loop-at
decreases-loop-at l = l.at
