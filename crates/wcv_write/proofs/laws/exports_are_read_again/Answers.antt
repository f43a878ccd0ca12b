use Rattle.wcv_write.proofs.TypesAgain.{export_again}
use Rattle.wcv_write.proofs.laws.exports_are_read_again.Goals as goal

pub returns : goal.returns
returns _ = export_again
