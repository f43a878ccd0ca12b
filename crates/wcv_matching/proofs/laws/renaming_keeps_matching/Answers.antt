use Rattle.wcv_matching.specs.ModuleItems.{ItemsMatch}
use Rattle.wcv_matching.proofs.MatchingKept.{Matches-rename, Matches-renamed_back}
use Rattle.wcv_matching.proofs.laws.renaming_keeps_matching.Goals as goal

pub returns-clause-to : goal.returns-clause-to
returns-clause-to c gs f g back a b w = Matches-rename (ItemsMatch gs) f g back w a b

pub returns-clause-back : goal.returns-clause-back
returns-clause-back c gs f g back a b w = Matches-renamed_back (ItemsMatch gs) f g back w a b
