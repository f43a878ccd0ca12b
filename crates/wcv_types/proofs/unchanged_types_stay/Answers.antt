use Rattle.wcv_types.proofs.Replacing.{unchanged-stays}
use Rattle.wcv_types.proofs.unchanged_types_stay.Goals as goal

pub returns : goal.returns
returns c = unchanged-stays
