use Rattle.wcv_write.proofs.TypesAgain.{func_again}
use Rattle.wcv_write.proofs.laws.function_types_are_read_again.Goals as goal

pub returns : goal.returns
returns _ = func_again
