use Rattle.wcv_types.proofs.UpToRenaming.{up_to_renaming-sym}
use Rattle.wcv_types.proofs.equal_types_are_equal_both_ways.Goals as goal

pub returns : goal.returns
returns c = up_to_renaming-sym
