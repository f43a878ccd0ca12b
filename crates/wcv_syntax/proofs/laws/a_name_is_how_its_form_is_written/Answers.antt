use Rattle.wcv_syntax.proofs.Formed.{sound, found}
use Rattle.wcv_syntax.proofs.laws.a_name_is_how_its_form_is_written.Goals as goal

pub returns-clause-read : goal.returns-clause-read
returns-clause-read c = sound

pub returns-clause-found : goal.returns-clause-found
returns-clause-found c = found
