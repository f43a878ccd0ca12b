use Rattle.std.proofs.Common.{subst}
use Rattle.wcv_core.specs.CoreGroups.{AreClosed}
use Rattle.wcv_core.proofs.Finding.{one_group}
use Rattle.wcv_core.proofs.core_table.CoreTypes.len.Goals as goal

pub returns-clause-apart : goal.returns-clause-apart
returns-clause-apart c g h i = one_group i c.args.self.now g h (subst (AreClosed 0) c.self.view_is c.len.ensures.closed)

pub returns-clause-closed : goal.returns-clause-closed
returns-clause-closed c = subst (AreClosed 0) c.self.view_is c.len.ensures.closed
