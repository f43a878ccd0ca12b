use Rattle.wcv_write.proofs.FormsAgain.{value_again}
use Rattle.wcv_write.proofs.laws.value_types_are_read_again.Goals as goal

pub returns : goal.returns
returns c = value_again
