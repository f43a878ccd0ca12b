use Rattle.std.proofs.Common.{◌≡◌, ◌++◌, map, take}
use Rattle.wcv_counterparts.specs.IdCounterparts.{lands_on}
use Rattle.wcv_counterparts.specs.OwnResources.{read_as}
use Rattle.wcv_atoms.specs.Readings.{atoms_of, reads}
use Rattle.wcv_counterparts.proofs.own_resources.push_read.Given as goal

-- those before have joined
abbrev pub invariant-loop-pair : goal.invariant-loop-pair
invariant-loop-pair l = atoms_of l.atoms.items ≡ atoms_of l.fn.atoms.items ++ read_as (reads l.readings) (map lands_on (take l.pair-index l.pairs))
