use Rattle.wcv_lower.specs.Aliases.{alias_step}
use Rattle.wcv_safety.proofs.Agreeing.{grown-follows}
use Rattle.wcv_safety.proofs.Aliases.{alias-follows}
use Rattle.wcv_safety.proofs.laws.aliases_keep_agreement.Goals as goal

pub returns : goal.returns
returns c fs n names R p args mk g v s u i table supers h a e = grown-follows g v s u (alias_step v i) (alias_step s i) (λ y q f. alias-follows g v s table supers h a i y q) e
