use Rattle.wcv_link.proofs.ModuleCalls.{made_of_calls, grew_by_calls}
use Rattle.wcv_link.proofs.module_laws.calls_on_a_module_are_its_item.Goals as goal

pub returns : goal.returns
returns c = record { made = made_of_calls; grew = grew_by_calls }
