use Rattle.wcv_matching.specs.ModuleItems.{ItemsMatch}
use Rattle.wcv_matching.proofs.MatchingOrder.{Matches-refl}
use Rattle.wcv_matching.proofs.laws.a_type_matches_itself.Goals as goal

pub returns : goal.returns
returns c gs = Matches-refl (ItemsMatch gs)
