use Rattle.wcv_write.proofs.FormsAgain.{alias_again}
use Rattle.wcv_write.proofs.laws.aliases_are_read_again.Goals as goal

pub returns : goal.returns
returns c = alias_again
