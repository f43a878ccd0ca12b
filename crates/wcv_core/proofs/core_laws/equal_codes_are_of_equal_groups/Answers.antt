use Rattle.wcv_core.proofs.Reading.{code_of-same}
use Rattle.wcv_core.proofs.core_laws.equal_codes_are_of_equal_groups.Goals as goal

pub returns : goal.returns
returns c = code_of-same
