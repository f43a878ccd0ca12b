use Rattle.wcv_matching.specs.OnePass.{given}
use Rattle.wcv_atoms.specs.Readings.{reads}
use Rattle.wcv_subtype.proofs.openings.open_imports.Goals as goal

pub open_each-opened-requires-clause-compared : goal.open_each-opened-requires-clause-compared
open_each-opened-requires-clause-compared g c = c.new-compared.ensures c.args.types.now given (reads c.args.right.now)
