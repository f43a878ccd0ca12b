use Rattle.std.proofs.Common.{◌≡◌, ◌++◌, cond, map, take}
use Rattle.wcv_matching.specs.OnePass.{made_in, owned_in}
use Rattle.wcv_counterparts.specs.IdCounterparts.{lands_on}
use Rattle.wcv_counterparts.specs.OwnResources.{read_as}
use Rattle.wcv_atoms.specs.Readings.{atoms_of}
use Rattle.wcv_counterparts.proofs.own_resources.push_own.Given as goal

-- those before have joined
abbrev pub invariant-loop-pair : goal.invariant-loop-pair
invariant-loop-pair l = atoms_of l.atoms.items ≡ atoms_of l.fn.atoms.items ++ read_as (cond l.made (made_in l.level) (owned_in l.level)) (map lands_on (take l.pair-index l.pairs))
