use Rattle.wcv_matching.specs.ModuleItems.{ItemsMatch}
use Rattle.wcv_matching.proofs.MatchingOnce.{MatchesOnce-iff}
use Rattle.wcv_matching.proofs.laws.matching_asks_once.Goals as goal

pub returns-clause-to : goal.returns-clause-to
returns-clause-to c gs a b oa ob = (MatchesOnce-iff (ItemsMatch gs) a b oa ob).0

pub returns-clause-from : goal.returns-clause-from
returns-clause-from c gs a b oa ob = (MatchesOnce-iff (ItemsMatch gs) a b oa ob).1
