use Rattle.wcv_write.proofs.TypesAgain.{start_again}
use Rattle.wcv_write.proofs.laws.starts_are_read_again.Goals as goal

pub returns : goal.returns
returns _ = start_again
