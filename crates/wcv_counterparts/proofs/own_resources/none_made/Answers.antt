use Rattle.std.proofs.Common.{arith}
use Rattle.wcv_counterparts.proofs.OwnReadings.{made_elsewhere, none_there, one_made}
use Rattle.wcv_counterparts.proofs.own_resources.none_made.Goals as goal
use Rattle.wcv_counterparts.proofs.own_resources.none_made.Goals.{in-Made+else-at-level, in_default}

pub returns-then-at-level : goal.returns-then-at-level
returns-then-at-level c = one_made c.args.level c.args.atoms.now c.loop-entry.entry-index _ (omega arith) c.in-Made.at c.in-Made.field-1 c.in-Made.is c.if-at-level.true c.loop-entry.invariant

pub loop-entry-preserved : goal.loop-entry-preserved
loop-entry-preserved c = elim c.match-entry.branch [
  | in-Made+else-at-level w ↦ made_elsewhere c.args.level c.args.atoms.now c.loop-entry.entry-index _ (omega arith) w.in-Made.at w.in-Made.field-1 w.in-Made.is w.if-at-level.false c.loop-entry.invariant
  | in_default w ↦ none_there c.args.level c.args.atoms.now c.loop-entry.entry-index _ (omega arith) w.in_default.not-Made c.loop-entry.invariant
]
