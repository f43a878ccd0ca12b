use Rattle.wcv_encode.proofs.AgainCore.{val_again, field_again}
use Rattle.wcv_encode.proofs.AgainCanons.{canon_again}
use Rattle.wcv_encode.proofs.laws.canonical_functions_are_read_again.Goals as goal

pub returns-clause-value : goal.returns-clause-value
returns-clause-value _ = val_again

pub returns-clause-field : goal.returns-clause-field
returns-clause-field _ = field_again

pub returns-clause-canon : goal.returns-clause-canon
returns-clause-canon _ = canon_again
