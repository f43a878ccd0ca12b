use Rattle.wcv_matching.specs.ModuleItems.{ItemsMatch}
use Rattle.wcv_matching.proofs.MatchingKept.{Matches-substitute, Matches-back}
use Rattle.wcv_matching.proofs.laws.replacing_keeps_matching.Goals as goal

pub returns-clause-to : goal.returns-clause-to
returns-clause-to c gs = Matches-substitute (ItemsMatch gs)

pub returns-clause-back : goal.returns-clause-back
returns-clause-back c gs = Matches-back (ItemsMatch gs)
