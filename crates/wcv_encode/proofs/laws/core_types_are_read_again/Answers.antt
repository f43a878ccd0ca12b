use Rattle.wcv_encode.proofs.AgainCoreTypes.{group_again, module_decl_again, core_type_again}
use Rattle.wcv_encode.proofs.laws.core_types_are_read_again.Goals as goal

pub returns-clause-group : goal.returns-clause-group
returns-clause-group _ = group_again

pub returns-clause-declaration : goal.returns-clause-declaration
returns-clause-declaration _ = module_decl_again

pub returns-clause-item : goal.returns-clause-item
returns-clause-item _ = core_type_again
