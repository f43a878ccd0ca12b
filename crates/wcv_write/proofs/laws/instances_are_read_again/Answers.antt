use Rattle.wcv_write.proofs.TypesAgain.{instance_again}
use Rattle.wcv_write.proofs.laws.instances_are_read_again.Goals as goal

pub returns : goal.returns
returns _ = instance_again
