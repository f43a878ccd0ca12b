use Rattle.wcv_write.proofs.DeclaredAgain.{type_again}
use Rattle.wcv_write.proofs.laws.types_are_read_again.Goals as goal

pub returns : goal.returns
returns _ = type_again
