use Rattle.wcv_lower.specs.Trees.{tree_reader, tree_maker}
use Rattle.wcv_lower.proofs.DeclaredDoes.{type_there}
use Rattle.wcv_lower.proofs.DeclaredNames.{read_type-renamed, declared_checks-renamed}
use Rattle.wcv_lower.proofs.NewNames.{trees_tell}
use Rattle.wcv_lower.proofs.laws.renaming_keeps_declared_types.Goals as goal

pub returns : goal.returns
returns c = record {
  growth = λ w n m p r fs s t. read_type-renamed w n m fs p r s t;
  causes = λ w n m p r fs limited s t. declared_checks-renamed w n m fs p r limited s t;
  free = λ n p fs limited s t h. type_there tree_reader fs (tree_maker n) trees_tell limited p s t h;
}
