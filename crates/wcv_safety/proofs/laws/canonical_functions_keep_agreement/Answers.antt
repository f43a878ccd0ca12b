use Rattle.std.proofs.Common.{subst, sym}
use Rattle.wcv_lower.specs.Canons.{canon_step}
use Rattle.wcv_lower.specs.Trees.{Tree_stack}
use Rattle.wcv_growth.specs.Kept.{IsPrefix}
use Rattle.wcv_safety.proofs.Agreeing.{grown-follows}
use Rattle.wcv_safety.proofs.CanonResources.{local-agrees}
use Rattle.wcv_safety.proofs.Canons.{canon-follows}
use Rattle.wcv_safety.proofs.laws.canonical_functions_keep_agreement.Goals as goal

pub returns : goal.returns
returns c fs n names R p args mk g v s u f t h once bare a x q =
    grown-follows g v s u (canon_step v f) (canon_step s f)
    (λ y k e. canon-follows g v s h a t (local-agrees g v s h a once bare) f y (subst (λ (z : Tree_stack). IsPrefix z.groups v.groups) (sym e) q) k) x
