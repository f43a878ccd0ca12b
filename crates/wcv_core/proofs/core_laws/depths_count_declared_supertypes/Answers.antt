use Rattle.wcv_core.proofs.Supertypes.{has_above, above_counted}
use Rattle.wcv_core.proofs.core_laws.depths_count_declared_supertypes.Goals as goal

pub returns-clause-above : goal.returns-clause-above
returns-clause-above c = has_above

pub returns-clause-counted : goal.returns-clause-counted
returns-clause-counted c = above_counted
