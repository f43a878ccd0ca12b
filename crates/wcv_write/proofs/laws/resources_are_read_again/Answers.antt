use Rattle.wcv_write.proofs.TypesAgain.{resource_again}
use Rattle.wcv_write.proofs.laws.resources_are_read_again.Goals as goal

pub returns : goal.returns
returns _ = resource_again
