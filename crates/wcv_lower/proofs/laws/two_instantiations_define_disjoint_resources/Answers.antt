use Rattle.wcv_lower.proofs.Instantiating.{disjoint}
use Rattle.wcv_lower.proofs.laws.two_instantiations_define_disjoint_resources.Goals as goal

pub returns : goal.returns
returns c = disjoint
