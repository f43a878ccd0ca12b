use Rattle.std.proofs.Common.{refl}
use Rattle.wcv_core.specs.CoreAbove.{is_declared}
use Rattle.wcv_world.proofs.worked.a_command_runs_over_an_interface.Goals as goal

pub returns-clause-ended : goal.returns-clause-ended
unfolding is_declared
returns-clause-ended c fs turns = (_, refl, refl, refl)

pub returns-clause-without : goal.returns-clause-without
unfolding is_declared
returns-clause-without c fs = refl
