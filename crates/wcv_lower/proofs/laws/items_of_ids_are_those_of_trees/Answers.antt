use Rattle.wcv_lower.specs.Slots.{to_trees}
use Rattle.wcv_lower.proofs.GrowthLaws.{grow-mapped, checks-mapped}
use Rattle.wcv_lower.proofs.Unfolded.{unfold_commutes}
use Rattle.wcv_lower.proofs.laws.items_of_ids_are_those_of_trees.Goals as goal

pub returns : goal.returns
returns c = record {
  growth = λ a fs k l s f fit w u. grow-mapped (to_trees a) (unfold_commutes a fit) fs k l s f w u;
  causes = λ a fs k l s f fit w u. checks-mapped (to_trees a) (unfold_commutes a fit) fs k l s f w u;
}
