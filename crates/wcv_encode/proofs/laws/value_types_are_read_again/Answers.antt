use Rattle.wcv_encode.proofs.AgainValues.{defined_again, func_again}
use Rattle.wcv_encode.proofs.laws.value_types_are_read_again.Goals as goal

pub returns-clause-defined : goal.returns-clause-defined
returns-clause-defined _ = defined_again

pub returns-clause-func : goal.returns-clause-func
returns-clause-func _ = func_again
