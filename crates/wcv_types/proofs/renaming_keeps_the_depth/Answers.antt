use Rattle.wcv_types.proofs.Measure.{depth-rename}
use Rattle.wcv_types.proofs.renaming_keeps_the_depth.Goals as goal

pub returns : goal.returns
returns c = depth-rename
