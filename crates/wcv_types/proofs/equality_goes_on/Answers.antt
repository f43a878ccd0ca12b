use Rattle.wcv_types.proofs.UpToRenaming.{up_to_renaming-trans}
use Rattle.wcv_types.proofs.equality_goes_on.Goals as goal

pub returns : goal.returns
returns c = up_to_renaming-trans
