use Rattle.std.proofs.Common.{sym}
use Rattle.wcv_matching.proofs.ItemTests.{memory_to, memory_fails}
use Rattle.wcv_matching.proofs.core_items.memory_type.Goals as goal

pub returns-then-memory_matches-clause-ok : goal.returns-then-memory_matches-clause-ok
returns-then-memory_matches-clause-ok c = memory_to c.args.a.now c.args.b.now (sym c.if-memory_matches.ensures)

pub returns-else-memory_matches-clause-err : goal.returns-else-memory_matches-clause-err
returns-else-memory_matches-clause-err c = record { is = c.unlike.ensures.kind; at = c.unlike.ensures.offset; fails = memory_fails c.args.a.now c.args.b.now (sym c.if-memory_matches.ensures) }
