use Rattle.wcv_names.proofs.FuncTrees.{func_stands}
use Rattle.wcv_names.proofs.functions.func_of.Goals as goal

pub returns-clause-stands : goal.returns-clause-stands
returns-clause-stands c = func_stands c.args.types.now c.args.id c.get.result.now c.get.ensures.before
