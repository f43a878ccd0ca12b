use Rattle.wcv_types.proofs.FirstPath.{first_path-none}
use Rattle.wcv_types.proofs.there_is_a_first_path.Goals as goal

pub returns : goal.returns
returns c = first_path-none
