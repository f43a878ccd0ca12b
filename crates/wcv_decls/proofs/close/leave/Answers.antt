use Rattle.std.proofs.Common.{ap, sym, ◌∙◌}
use Rattle.wcv_decls.specs.Declaring.{around}
use Rattle.wcv_decls.proofs.InnermostStates.{around_at}
use Rattle.wcv_decls.proofs.close.leave.Goals as goal

pub returns-in-Some : goal.returns-in-Some
returns-in-Some c = sym (ap around c.in-Some.ensures.items ∙ around_at c.pop.new.self.items c.in-Some.state)
