use Rattle.wcv_types.proofs.Replacing.{replaced-aside}
use Rattle.wcv_types.proofs.rebuilding_is_replacing.Goals as goal

pub returns : goal.returns
returns c = λ m t n s. replaced-aside m n t s
