use Rattle.wcv_encode.proofs.AgainModules.{core_module_again}
use Rattle.wcv_encode.proofs.laws.core_modules_are_read_again.Goals as goal

pub returns : goal.returns
returns _ = λ ds b end room e. core_module_again ds b e end room
