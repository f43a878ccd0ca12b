use Rattle.std.proofs.Common.{Bool, cond, Some, None, ap}
use Rattle.std.specs.Prelude.{Option}
use Rattle.wcv_core.specs.Names.{Name, member}
use Rattle.wcv_matching.specs.OnePass.{argument_for}
use Rattle.wcv_matching.specs.SameTypes.{made_at}
use Rattle.wcv_types.specs.Tree.{head}
use Rattle.wcv_lower.specs.Names.{again}
use Rattle.wcv_lower.specs.Trees.{tree_maker}
use Rattle.wcv_lower.proofs.Instantiating.{opening-decides, accepted_opens}
use Rattle.wcv_lower.proofs.laws.an_instantiation_opens_in_one_way.Goals as goal

pub returns : goal.returns
returns c = record {
  decided = λ s i args x table all e. opening-decides s table all i args x e;
  accepted = λ fs n p s i args table all h. accepted_opens s table all i args fs (tree_maker n p) h;
  imported = λ n p args x r h. ap (λ (b : Bool). cond {A = Option Name} b (Some (argument_for args x r)) (cond (member r (made_at (head x))) (Some (n.resource (again p r))) None)) h;
}
