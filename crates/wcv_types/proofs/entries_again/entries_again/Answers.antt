use Rattle.wcv_types.specs.Tree.{import}
use Rattle.wcv_types.proofs.EntriesRefilled.{next_fills, next_made, all_made, names_again}
use Rattle.wcv_types.proofs.entries_again.entries_again.Goals as goal

pub push_again-requires : goal.push_again-requires
push_again-requires c =
    next_fills c.args.entries.now c.args.parts.now import c.loop-entry.entry-index c.entry-item.result c.loop-entry.again c.loop-entry.parts c.loop-entry-test.true c.entry-item.is c.loop-entry.invariant

pub loop-entry-preserved : goal.loop-entry-preserved
loop-entry-preserved c =
    next_made c.args.entries.now c.args.parts.now c.loop-entry.entry-index c.entry-item.result c.loop-entry.again c.push_again.new.again c.loop-entry.parts c.push_again.new.parts c.loop-entry-test.true c.entry-item.is
    c.in_ok-push_again.ensures.slots c.in_ok-push_again.ensures.left c.loop-entry.invariant

pub returns-clause-names : goal.returns-clause-names
returns-clause-names c = names_again c.args.entries.now c.loop-entry.again c.args.parts.now (all_made c.args.entries.now c.args.parts.now c.loop-entry.entry-index c.loop-entry.again c.loop-entry.parts c.loop-entry-test.false c.loop-entry.invariant import).0
