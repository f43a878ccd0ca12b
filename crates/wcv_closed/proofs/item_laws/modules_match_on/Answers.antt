use Rattle.wcv_closed.proofs.ModuleMatching.{module_itself, module_on}
use Rattle.wcv_closed.proofs.item_laws.modules_match_on.Goals as goal

pub returns-clause-itself : goal.returns-clause-itself
returns-clause-itself c = module_itself

pub returns-clause-on : goal.returns-clause-on
returns-clause-on c = module_on
