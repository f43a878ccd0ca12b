use Rattle.std.proofs.Common.{refl}
use Rattle.wcv_world.proofs.worked.an_exported_resource_is_a_token.Goals as goal

pub returns-clause-exported : goal.returns-clause-exported
returns-clause-exported c fs turns n = refl

pub returns-clause-given : goal.returns-clause-given
returns-clause-given c fs turns = refl

pub returns-clause-missing : goal.returns-clause-missing
returns-clause-missing c fs turns = refl
