use Rattle.wcv_world.proofs.Fitting.{fits-decided}
use Rattle.wcv_world.proofs.laws.an_import_takes_what_fits.Goals as goal

pub returns : goal.returns
returns c gs v b = fits-decided gs v b
