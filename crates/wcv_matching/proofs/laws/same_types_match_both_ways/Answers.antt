use Rattle.wcv_matching.specs.ModuleItems.{ItemsMatch}
use Rattle.wcv_matching.proofs.MatchingOnce.{IsSame-from}
use Rattle.wcv_matching.proofs.SameTypes.{IsSame-both}
use Rattle.wcv_matching.proofs.laws.same_types_match_both_ways.Goals as goal

pub returns-clause-to : goal.returns-clause-to
returns-clause-to c gs = IsSame-both (ItemsMatch gs)

pub returns-clause-from : goal.returns-clause-from
returns-clause-from c gs = IsSame-from (ItemsMatch gs)
