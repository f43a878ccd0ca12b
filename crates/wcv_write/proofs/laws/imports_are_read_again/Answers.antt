use Rattle.wcv_write.proofs.FormsAgain.{import_again}
use Rattle.wcv_write.proofs.laws.imports_are_read_again.Goals as goal

pub returns : goal.returns
returns c = import_again
