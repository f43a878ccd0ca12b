use Rattle.std.proofs.Common.{◌≡◌, cond, drop, false, true}
use Rattle.std.specs.List.{list_all}
use Rattle.wcv_matching.specs.OnePass.{is_made_in}
use Rattle.wcv_atoms.specs.Readings.{atoms_of}
use Rattle.wcv_counterparts.proofs.own_resources.none_made.Given as goal

-- what is left decides
abbrev pub invariant-loop-entry : goal.invariant-loop-entry
invariant-loop-entry l = list_all (λ e. cond (is_made_in l.level e.1) false true) (atoms_of l.atoms) ≡ list_all (λ e. cond (is_made_in l.level e.1) false true) (drop l.entry-index (atoms_of l.atoms))
