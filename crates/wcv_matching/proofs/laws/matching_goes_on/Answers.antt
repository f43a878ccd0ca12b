use Rattle.wcv_matching.specs.ModuleItems.{ItemsMatch}
use Rattle.wcv_matching.proofs.MatchingOrder.{Matches-trans}
use Rattle.wcv_matching.proofs.TableMatching.{items_go_on}
use Rattle.wcv_matching.proofs.laws.matching_goes_on.Goals as goal

pub returns : goal.returns
returns c gs x y z t s = Matches-trans (ItemsMatch gs) (items_go_on gs t s) x y z
