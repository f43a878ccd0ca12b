use Rattle.std.proofs.Common.{◌≡◌, map, take}
use Rattle.wcv_types.specs.Tree.{firsts}
use Rattle.wcv_types.specs.Unfold.{resource_path}
use Rattle.wcv_counterparts.specs.IdCounterparts.{lands_on}
use Rattle.wcv_counterparts.specs.OwnResources.{going}
use Rattle.wcv_counterparts.proofs.own_resources.themselves.Given as goal

-- those before are in the list
abbrev pub invariant-loop-k : goal.invariant-loop-k
invariant-loop-k l = map lands_on l.pairs.items ≡ going (λ r. r) (firsts (map resource_path (take l.k l.paths)))
