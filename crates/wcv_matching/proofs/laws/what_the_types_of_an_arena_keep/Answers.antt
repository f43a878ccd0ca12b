use Rattle.wcv_matching.proofs.ArenaTypes.{all_led}
use Rattle.wcv_matching.proofs.CoreInside.{all_within}
use Rattle.wcv_matching.proofs.NamesInside.{all_apart}
use Rattle.wcv_matching.proofs.laws.what_the_types_of_an_arena_keep.Goals as goal

pub returns-clause-orderly : goal.returns-clause-orderly
returns-clause-orderly c a q f s = (all_apart a f q s, all_led a f q s)

pub returns-clause-within : goal.returns-clause-within
returns-clause-within c a q f s = all_within a f q s
