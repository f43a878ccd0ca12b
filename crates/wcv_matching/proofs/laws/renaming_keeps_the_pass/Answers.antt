use Rattle.wcv_matching.proofs.PassRenamed.{matches-renamed, opens-renamed}
use Rattle.wcv_matching.proofs.laws.renaming_keeps_the_pass.Goals as goal

pub returns-clause-matches : goal.returns-clause-matches
returns-clause-matches c gs f g back a b w = matches-renamed f g back w gs a b

pub returns-clause-opens : goal.returns-clause-opens
returns-clause-opens c gs f g back args x w = opens-renamed f g back w gs args x
