use Rattle.std.proofs.Common.{refl}
use Rattle.wcv_world.proofs.worked.a_root_without_items_ends.Goals as goal

pub returns : goal.returns
returns c fs turns = refl
