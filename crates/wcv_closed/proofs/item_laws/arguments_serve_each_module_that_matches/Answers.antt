use Rattle.wcv_closed.proofs.ModuleMatching.{served_on}
use Rattle.wcv_closed.proofs.item_laws.arguments_serve_each_module_that_matches.Goals as goal

pub returns : goal.returns
returns c = served_on
