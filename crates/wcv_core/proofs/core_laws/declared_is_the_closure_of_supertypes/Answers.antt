use Rattle.wcv_core.proofs.Supertypes.{declared_leads, leads_declared}
use Rattle.wcv_core.proofs.core_laws.declared_is_the_closure_of_supertypes.Goals as goal

pub returns-clause-to : goal.returns-clause-to
returns-clause-to c = declared_leads

pub returns-clause-from : goal.returns-clause-from
returns-clause-from c = leads_declared
