use Rattle.std.proofs.Common.{◌≡◌, map, take}
use Rattle.wcv_atoms.specs.Readings.{atoms_of, reads}
use Rattle.wcv_atoms.proofs.readings.Readings.kept.Given as goal

abbrev pub invariant-loop-entry : goal.invariant-loop-entry
invariant-loop-entry l = atoms_of l.kept.items ≡ map (λ e. (e.0, reads l.self e.0)) (atoms_of (take l.entry-index l.entries))
