use Rattle.std.proofs.Common.{sym}
use Rattle.wcv_matching.proofs.ItemTests.{table_to, table_fails}
use Rattle.wcv_matching.proofs.core_items.table_type.Goals as goal

pub returns-then-table_matches-clause-ok : goal.returns-then-table_matches-clause-ok
returns-then-table_matches-clause-ok c gs = table_to gs c.args.a.now c.args.b.now (sym c.if-table_matches.ensures)

pub returns-else-table_matches-clause-err : goal.returns-else-table_matches-clause-err
returns-else-table_matches-clause-err c = record { is = c.unlike.ensures.kind; at = c.unlike.ensures.offset; fails = table_fails c.args.a.now c.args.b.now (sym c.if-table_matches.ensures) }
