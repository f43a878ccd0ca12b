use Rattle.wcv_lower.specs.Slots.{to_trees}
use Rattle.wcv_lower.specs.Trees.{tree_reader}
use Rattle.wcv_lower.proofs.AliasLaws.{alias_step-mapped, alias_checks-mapped, alias_does}
use Rattle.wcv_lower.proofs.Unfolded.{unfold_commutes}
use Rattle.wcv_lower.proofs.laws.aliases_of_ids_are_those_of_trees.Goals as goal

pub returns : goal.returns
returns c = record {
  step = λ a s x fit h. alias_step-mapped (to_trees a) (unfold_commutes a fit) s h x;
  causes = λ a fs s x fit h. alias_checks-mapped (to_trees a) (unfold_commutes a fit) fs s h x;
  free = alias_does tree_reader;
}
