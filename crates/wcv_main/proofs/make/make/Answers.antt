use Rattle.wcv_main.specs.Due.{made}
use Rattle.wcv_main.proofs.Ending.{nothing_ends}
use Rattle.wcv_main.proofs.make.make.Goals as goal

pub returns-in-Err : goal.returns-in-Err
returns-in-Err g c = nothing_ends (made c.args.n) _ _
