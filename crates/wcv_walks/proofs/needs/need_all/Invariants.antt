use Rattle.wcv_walks.proofs.Needing.{Left, among_from}
use Rattle.wcv_walks.proofs.needs.need_all.Given as goal

-- those before have joined
abbrev pub invariant-loop-k : goal.invariant-loop-k
invariant-loop-k l = Left l.types (among_from l.types l.more l.created 0) (among_from l.types l.more l.created l.k) l.fn.needed l.needed
