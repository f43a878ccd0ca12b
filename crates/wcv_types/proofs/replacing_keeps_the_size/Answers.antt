use Rattle.wcv_types.proofs.Measure.{size-substitute}
use Rattle.wcv_types.proofs.replacing_keeps_the_size.Goals as goal

pub returns : goal.returns
returns c = size-substitute
