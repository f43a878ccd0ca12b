use Rattle.wcv_write.proofs.FormsAgain.{params_again}
use Rattle.wcv_write.proofs.laws.params_are_read_again.Goals as goal

pub returns : goal.returns
returns c = params_again
