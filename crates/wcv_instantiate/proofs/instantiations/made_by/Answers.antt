use Rattle.wcv_types.proofs.Grown.{extends_refl}
use Rattle.wcv_instantiate.proofs.instantiations.made_by.Goals as goal

pub returns-in-Err-clause-grown : goal.returns-in-Err-clause-grown
returns-in-Err-clause-grown g c = extends_refl _
