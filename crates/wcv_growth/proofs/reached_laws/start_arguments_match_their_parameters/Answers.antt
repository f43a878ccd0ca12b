use Rattle.wcv_growth.proofs.ReachedLaws.{start-accepted, suiting}
use Rattle.wcv_growth.proofs.reached_laws.start_arguments_match_their_parameters.Goals as goal

pub returns : goal.returns
returns c = record {
  suiting = λ fs w k f s args x r there m. suiting fs w k s r f args x there m;
  accepted = λ fs w k f n s args r free. start-accepted fs w k s r f args n free;
}
