use Rattle.std.proofs.Common.{◌≡◌, drop}
use Rattle.wcv_types.specs.Entities.{retyped}
use Rattle.wcv_types.proofs.same_entities.have_types.Given as goal

-- those before have their types
abbrev pub invariant-loop-k : goal.invariant-loop-k
invariant-loop-k l = retyped (drop l.k l.pairs) (drop l.k l.tys) ≡ drop l.k l.pairs → retyped l.pairs l.tys ≡ l.pairs
