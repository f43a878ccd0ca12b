use Rattle.wcv_matching.specs.ModuleItems.{ItemsMatch}
use Rattle.wcv_matching.proofs.PassBound.{Matches-decides, IsSame-decides}
use Rattle.wcv_matching.proofs.laws.one_pass_decides_matching.Goals as goal

pub returns-clause-matches : goal.returns-clause-matches
returns-clause-matches c gs test a b right = Matches-decides (ItemsMatch gs) test right a b

pub returns-clause-same : goal.returns-clause-same
returns-clause-same c gs test a b right = IsSame-decides (ItemsMatch gs) test right a b
