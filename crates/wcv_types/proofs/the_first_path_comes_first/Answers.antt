use Rattle.wcv_types.proofs.PathOrder.{first_comes_first}
use Rattle.wcv_types.proofs.the_first_path_comes_first.Goals as goal

pub returns-clause-first : goal.returns-clause-first
returns-clause-first c = first_comes_first
