use Rattle.std.proofs.Common.{◌≡◌, take}
use Rattle.wcv_types.specs.Sets.{resource_names}
use Rattle.wcv_matching.specs.OnePass.{owned_in}
use Rattle.wcv_atoms.specs.Readings.{atoms_of, read_by}
use Rattle.wcv_counterparts.proofs.own_resources.owned_atoms.Given as goal

-- those before are in the list
abbrev pub invariant-loop-k : goal.invariant-loop-k
invariant-loop-k l = atoms_of l.atoms.items ≡ read_by (owned_in l.level) (resource_names (take l.k l.owned))
