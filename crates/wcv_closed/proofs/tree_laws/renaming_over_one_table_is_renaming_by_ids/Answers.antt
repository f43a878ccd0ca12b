use Rattle.wcv_closed.proofs.ClosedTrees.{by_ids}
use Rattle.wcv_closed.proofs.tree_laws.renaming_over_one_table_is_renaming_by_ids.Goals as goal

pub returns-clause-to_ids : goal.returns-clause-to_ids
returns-clause-to_ids c = by_ids
