use Rattle.wcv_types.proofs.UpToRenaming.{up_to_renaming-refl}
use Rattle.wcv_types.proofs.a_type_is_equal_to_itself.Goals as goal

pub returns : goal.returns
returns c = up_to_renaming-refl
