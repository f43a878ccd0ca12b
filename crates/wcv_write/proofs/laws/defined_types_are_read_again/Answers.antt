use Rattle.wcv_write.proofs.TypesAgain.{defined_again}
use Rattle.wcv_write.proofs.laws.defined_types_are_read_again.Goals as goal

pub returns : goal.returns
returns _ = defined_again
