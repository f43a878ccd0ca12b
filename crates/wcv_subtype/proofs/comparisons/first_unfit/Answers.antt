use Rattle.wcv_atoms.specs.Readings.{reads}
use Rattle.wcv_subtype.proofs.comparisons.first_unfit.Goals as goal

pub unfit_among-done-requires-clause-compared : goal.unfit_among-done-requires-clause-compared
unfit_among-done-requires-clause-compared g c = c.new-compared.ensures c.args.types.now (reads c.args.left.now) (reads c.args.right.now)
