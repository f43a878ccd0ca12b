use Rattle.wcv_write.proofs.CoreAgain.{core_type_again, core_module_again, core_instance_again}
use Rattle.wcv_write.proofs.laws.core_items_are_read_again.Goals as goal

pub returns-clause-core_type : goal.returns-clause-core_type
returns-clause-core_type _ = core_type_again

pub returns-clause-core_module : goal.returns-clause-core_module
returns-clause-core_module _ = core_module_again

pub returns-clause-core_instance : goal.returns-clause-core_instance
returns-clause-core_instance _ = core_instance_again
