use Rattle.wcv_encode.proofs.AgainEntries.{import_again, export_again, alias_again, instance_again, core_instance_again}
use Rattle.wcv_encode.proofs.laws.entries_are_read_again.Goals as goal

pub returns-clause-import : goal.returns-clause-import
returns-clause-import _ = import_again

pub returns-clause-export : goal.returns-clause-export
returns-clause-export _ = export_again

pub returns-clause-alias : goal.returns-clause-alias
returns-clause-alias _ = alias_again

pub returns-clause-instance : goal.returns-clause-instance
returns-clause-instance _ = instance_again

pub returns-clause-core_instance : goal.returns-clause-core_instance
returns-clause-core_instance _ = core_instance_again
