use Rattle.std.proofs.Common.{◌≡◌, ◌≤◌, drop, length}
use Rattle.wcv_atoms.specs.Readings.{atoms_of, over, reads}
use Rattle.wcv_atoms.proofs.readings.Readings.enter.Given as goal

-- those from there on are entered
abbrev pub invariant-loop-left : goal.invariant-loop-left
invariant-loop-left l = record {
  entered : reads l.self ≡ over (atoms_of (drop l.left l.entries)) (reads l.fn.self);
  within : l.left ≤ length l.entries;
}

abbrev pub decreases-loop-left : goal.decreases-loop-left
decreases-loop-left l = l.left
