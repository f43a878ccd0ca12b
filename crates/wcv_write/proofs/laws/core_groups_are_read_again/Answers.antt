use Rattle.wcv_write.proofs.CoreAgain.{group_again}
use Rattle.wcv_write.proofs.laws.core_groups_are_read_again.Goals as goal

pub returns : goal.returns
returns _ = group_again
