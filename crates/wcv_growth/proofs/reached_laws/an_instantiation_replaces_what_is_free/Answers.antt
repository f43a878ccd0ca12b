use Rattle.wcv_growth.proofs.ReachedLaws.{instance-spared, spares}
use Rattle.wcv_growth.proofs.reached_laws.an_instantiation_replaces_what_is_free.Goals as goal

pub returns : goal.returns
returns c = record {
  component = λ fs w p k i s args t r there. spares fs w k s r p i args t there;
  instance = λ fs w p k i s t r there. instance-spared fs w k s r p i t there;
}
