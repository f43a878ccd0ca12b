use Rattle.std.proofs.Common.{◌∙◌}
use Rattle.wcv_atoms.specs.Readings.{atoms_of, over, reads}
use Rattle.wcv_atoms.proofs.AtomLists.{over_back}
use Rattle.wcv_atoms.proofs.readings.Readings.enter_keeping.Goals as goal

pub returns-clause-back : goal.returns-clause-back
returns-clause-back c =
    (λ j. over (c.in_ok-kept.ensures j) (c.in_ok-enter.ensures j)) ∙ over_back (atoms_of c.args.entries.now) (reads c.args.self.now)
