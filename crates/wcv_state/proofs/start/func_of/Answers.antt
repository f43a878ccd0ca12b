use Rattle.wcv_names.proofs.FuncTrees.{func_stands, is_function}
use Rattle.wcv_state.proofs.start.func_of.Goals as goal

pub returns-clause-stands : goal.returns-clause-stands
returns-clause-stands c = func_stands c.args.types.now c.args.id c.get.result.now c.get.ensures.before

pub returns-clause-tree : goal.returns-clause-tree
returns-clause-tree c = is_function c.args.types.now c.args.id c.get.result.now c.get.ensures.unfolds
