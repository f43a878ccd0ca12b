use Rattle.wcv_lower.specs.Slots.{to_trees}
use Rattle.wcv_lower.proofs.DeclaredLaws.{read_type-mapped, declared_checks-mapped}
use Rattle.wcv_lower.proofs.Unfolded.{unfold_commutes}
use Rattle.wcv_lower.proofs.laws.declared_types_of_ids_are_those_of_trees.Goals as goal

pub returns : goal.returns
returns c = record {
  growth = λ a fs k l p s t fit h. read_type-mapped (to_trees a) (unfold_commutes a fit) fs k l p s t h;
  causes = λ a fs k l p limited s t fit h. declared_checks-mapped (to_trees a) (unfold_commutes a fit) fs k l limited p s t h;
}
