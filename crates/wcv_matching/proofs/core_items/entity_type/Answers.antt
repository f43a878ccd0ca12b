use Rattle.std.proofs.Common.{sym}
use Rattle.wcv_matching.proofs.ItemTests.{item_to, item_fails}
use Rattle.wcv_matching.proofs.core_items.entity_type.Goals as goal

pub returns-then-item_matches-clause-ok : goal.returns-then-item_matches-clause-ok
returns-then-item_matches-clause-ok c =
    item_to c.args.types.now (record { closed = c.len-count.ensures.closed; distinct = c.len-count.ensures.distinct }) c.args.a.now c.args.b.now c.requires.a c.requires.b (sym c.if-item_matches.ensures)

pub returns-else-item_matches-clause-err : goal.returns-else-item_matches-clause-err
returns-else-item_matches-clause-err c = record {
  is = c.unlike.ensures.kind;
  at = c.unlike.ensures.offset;
  fails = item_fails c.args.types.now c.args.a.now c.args.b.now (record { closed = c.len-count.ensures.closed; distinct = c.len-count.ensures.distinct }) c.requires.a c.requires.b (sym c.if-item_matches.ensures);
}
