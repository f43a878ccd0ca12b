use Rattle.wcv_matching.specs.ModuleItems.{ItemsMatch}
use Rattle.wcv_matching.proofs.OneOpening.{one_substitution}
use Rattle.wcv_matching.proofs.laws.at_most_one_substitution_opens.Goals as goal

pub returns : goal.returns
returns c gs = one_substitution (ItemsMatch gs)
