use Rattle.wcv_closed.proofs.ItemMatching.{item_itself, item_on}
use Rattle.wcv_closed.proofs.item_laws.items_match_on.Goals as goal

pub returns-clause-itself : goal.returns-clause-itself
returns-clause-itself c = item_itself

pub returns-clause-on : goal.returns-clause-on
returns-clause-on c = item_on
