use Rattle.wcv_write.proofs.CanonsAgain.{canon_again}
use Rattle.wcv_write.proofs.laws.canonical_functions_are_read_again.Goals as goal

pub returns : goal.returns
returns _ = canon_again
