use Rattle.wcv_lower.specs.Entries as entry
use Rattle.wcv_lower.specs.Trees.{tree_maker}
use Rattle.wcv_world.specs.Growth.{export_step}
use Rattle.wcv_safety.proofs.Agreeing.{grown-follows}
use Rattle.wcv_safety.proofs.Exports.{export-follows}
use Rattle.wcv_safety.proofs.laws.exports_keep_agreement.Goals as goal

pub returns : goal.returns
returns c fs n names other R p q args g v s u e table supers h a w x =
    grown-follows g v s u (export_step v.top e) (entry.export_step (tree_maker names p) s.top e) (λ y k f. export-follows names p g v s table supers h a e y w k) x
