use Rattle.wcv_atoms.proofs.AtomLists.{reading_set}
use Rattle.wcv_atoms.proofs.readings.Readings.set.Goals as goal

pub returns : goal.returns
returns c = reading_set c.args.self.now.atoms c.insert.new.self c.args.resource.index c.args.atom c.in_ok-insert.ensures.updates
