use Rattle.wcv_lower.specs.Entries as entry
use Rattle.wcv_lower.specs.Trees.{tree_maker}
use Rattle.wcv_world.specs.Growth.{import_step}
use Rattle.wcv_world.specs.Reading.{value_maker}
use Rattle.wcv_safety.specs.Importing.{with_opened}
use Rattle.wcv_safety.proofs.Agreeing.{grown-follows}
use Rattle.wcv_safety.proofs.Imports.{opened-reread, opened-tokens, import-follows}
use Rattle.wcv_safety.proofs.laws.imports_keep_agreement.Goals as goal

pub returns : goal.returns
returns c fs n names other R p q args g o v s u i b x table supers stand a e none new f opens there k =
    grown-follows (with_opened b.resources o g) v s u (import_step (value_maker other q) v args i) (entry.import_step (tree_maker names p) s.top i)
    (λ y l m. import-follows names other p q (with_opened b.resources o g) v s table supers stand (opened-reread b.resources g o v s new a) args i b x e none f opens.fits (opened-tokens v.top.defined g o b.resources opens.tokens) opens.alike opens.told there y l) k
