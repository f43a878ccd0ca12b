use Rattle.wcv_encode.proofs.AgainEntities.{table_again, memory_again, global_again, entity_again, core_import_again, module_import_again}
use Rattle.wcv_encode.proofs.laws.core_entities_are_read_again.Goals as goal

pub returns-clause-table : goal.returns-clause-table
returns-clause-table _ = table_again

pub returns-clause-memory : goal.returns-clause-memory
returns-clause-memory _ = memory_again

pub returns-clause-global : goal.returns-clause-global
returns-clause-global _ = global_again

pub returns-clause-entity : goal.returns-clause-entity
returns-clause-entity _ = entity_again

pub returns-clause-import : goal.returns-clause-import
returns-clause-import _ = core_import_again

pub returns-clause-module_import : goal.returns-clause-module_import
returns-clause-module_import _ = module_import_again
