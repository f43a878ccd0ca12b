use Rattle.wcv_growth.proofs.ReachedLaws.{served}
use Rattle.wcv_growth.proofs.reached_laws.core_arguments_serve_their_imports.Goals as goal

pub returns : goal.returns
returns c fs w k i s args m r there = served fs w k s r i args m there
