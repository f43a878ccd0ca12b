use Rattle.wcv_types.proofs.Measure.{depth-substitute}
use Rattle.wcv_types.proofs.replacing_keeps_the_depth.Goals as goal

pub returns : goal.returns
returns c = depth-substitute
