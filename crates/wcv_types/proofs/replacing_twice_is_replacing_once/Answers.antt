use Rattle.wcv_types.proofs.Replace.{substitute-twice}
use Rattle.wcv_types.proofs.replacing_twice_is_replacing_once.Goals as goal

pub returns : goal.returns
returns c = substitute-twice
