use Rattle.std.proofs.Common.{◌≡◌, map, take}
use Rattle.wcv_matching.specs.OnePass.{given}
use Rattle.wcv_atoms.specs.Readings.{atoms_of, resource_name}
use Rattle.wcv_subtype.proofs.openings.read_as.Given as goal

abbrev pub invariant-loop-k : goal.invariant-loop-k
invariant-loop-k l = atoms_of l.atoms.items ≡ map (λ e. (resource_name e.0, given (resource_name e.1))) (take l.k l.found)
