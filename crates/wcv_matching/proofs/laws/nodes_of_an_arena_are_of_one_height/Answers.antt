use Rattle.wcv_matching.proofs.ArenaHeights.{all_by_identity}
use Rattle.wcv_matching.proofs.laws.nodes_of_an_arena_are_of_one_height.Goals as goal

pub returns : goal.returns
returns c a q fit s = all_by_identity a fit q s
