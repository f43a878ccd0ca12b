use Rattle.wcv_matching.specs.ModuleItems.{ItemsMatch}
use Rattle.wcv_matching.proofs.PassArguments.{argument-found, found-opens, opens-decided}
use Rattle.wcv_matching.proofs.laws.one_pass_decides_openings.Goals as goal

pub returns-clause-opens : goal.returns-clause-opens
returns-clause-opens c gs test args x right = opens-decided (ItemsMatch gs) test right args x

pub returns-clause-found : goal.returns-clause-found
returns-clause-found c gs s args x r o m i = argument-found (ItemsMatch gs) s args x o m r i

pub returns-clause-finds : goal.returns-clause-finds
returns-clause-finds c gs s args x o m = found-opens (ItemsMatch gs) s args x o m
