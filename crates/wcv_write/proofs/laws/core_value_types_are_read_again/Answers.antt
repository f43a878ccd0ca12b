use Rattle.wcv_write.proofs.FormsAgain.{core_value_again}
use Rattle.wcv_write.proofs.laws.core_value_types_are_read_again.Goals as goal

pub returns : goal.returns
returns c = core_value_again
