use Rattle.wcv_lower.specs.Start.{start_step}
use Rattle.wcv_safety.proofs.Agreeing.{grown-follows}
use Rattle.wcv_safety.proofs.Starts.{start-follows}
use Rattle.wcv_safety.proofs.laws.start_items_keep_agreement.Goals as goal

pub returns : goal.returns
returns c fs n names R p args mk g v s u f m ks h a r x = grown-follows g v s u (start_step v.top f ks) (start_step s.top f ks) (λ y k l. start-follows g v s h a f ks y r k) x
