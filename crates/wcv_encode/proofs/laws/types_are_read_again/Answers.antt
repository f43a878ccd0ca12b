use Rattle.wcv_encode.proofs.AgainTypes.{type_again}
use Rattle.wcv_encode.proofs.laws.types_are_read_again.Goals as goal

pub returns : goal.returns
returns _ = type_again
