use Rattle.std.proofs.Common.{arith}
use Rattle.wcv_types.proofs.EntryLists.{count_next}
use Rattle.wcv_types.proofs.entry_parts.count_entries.Goals as goal

pub loop-entry-preserved : goal.loop-entry-preserved
loop-entry-preserved c = (
  omega (arith, c.loop-entry.invariant.0, c.count_entity-count.ensures.count, count_next c.args.entries.now c.loop-entry.entry-index c.entry-item.result c.loop-entry-test.true c.entry-item.is),
  omega (arith, c.loop-entry.invariant.1, c.count_entity-count.ensures.bound),
)
