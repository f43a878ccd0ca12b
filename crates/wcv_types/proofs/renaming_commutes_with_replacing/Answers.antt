use Rattle.wcv_types.proofs.Commute.{rename-substitute}
use Rattle.wcv_types.proofs.renaming_commutes_with_replacing.Goals as goal

pub returns : goal.returns
returns c = λ f back g u v t. rename-substitute f back g (λ i. Unit {0}) u v t
