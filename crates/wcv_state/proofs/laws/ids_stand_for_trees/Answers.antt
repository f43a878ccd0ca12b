use Rattle.wcv_state.proofs.Slots.{ids_grow, ids_checked}
use Rattle.wcv_state.proofs.laws.ids_stand_for_trees.Goals as goal

pub returns-clause-growth : goal.returns-clause-growth
returns-clause-growth c = λ a fs k l s around f fit h u. ids_grow a fit fs k l s around h f u

pub returns-clause-causes : goal.returns-clause-causes
returns-clause-causes c = λ a fs k l s around f fit h u. ids_checked a fit fs k l s around h f u
