use Rattle.wcv_walks.specs.Needing.{beside, AllSeen}
use Rattle.wcv_types.specs.Unfold.{trees}
use Rattle.wcv_types.proofs.Knowing.{named_from}
use Rattle.wcv_walks.proofs.Needing.{Left}
use Rattle.wcv_walks.proofs.needs.need_func.Given as goal

-- those before are gone through, and what was seen is named where all that is needed is
abbrev pub invariant-loop-param : goal.invariant-loop-param
invariant-loop-param l =
    Left l.types (λ ids. named_from (beside ids l.created l.set) (trees l.types.nodes) l.shape 0) (λ ids. named_from (beside ids l.created l.set) (trees l.types.nodes) l.shape l.param-index) l.fn.needed l.needed ×
    AllSeen l.types l.created l.set l.needed l.seen
