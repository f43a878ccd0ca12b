use Rattle.wcv_write.proofs.CoreAgain.{entity_again}
use Rattle.wcv_write.proofs.laws.core_entities_are_read_again.Goals as goal

pub returns : goal.returns
returns _ = entity_again
