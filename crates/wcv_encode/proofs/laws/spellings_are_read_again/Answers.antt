use Rattle.wcv_encode.proofs.AgainComponents.{spelling_again}
use Rattle.wcv_encode.proofs.laws.spellings_are_read_again.Goals as goal

pub returns : goal.returns
returns _ = spelling_again
