use Rattle.wcv_types.proofs.Measure.{size-rename}
use Rattle.wcv_types.proofs.renaming_keeps_the_size.Goals as goal

pub returns : goal.returns
returns c = size-rename
