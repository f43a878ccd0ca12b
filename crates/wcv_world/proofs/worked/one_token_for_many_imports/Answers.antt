use Rattle.std.proofs.Common.{refl}
use Rattle.wcv_world.proofs.worked.one_token_for_many_imports.Goals as goal

pub returns-clause-two : goal.returns-clause-two
returns-clause-two c fs turns = refl

pub returns-clause-two_without : goal.returns-clause-two_without
returns-clause-two_without c fs = refl

pub returns-clause-four : goal.returns-clause-four
returns-clause-four c fs turns = refl

pub returns-clause-four_without : goal.returns-clause-four_without
returns-clause-four_without c fs = refl
