use Rattle.std.proofs.Common.{map}
use Rattle.wcv_syntax.specs.Model.{bag, core_bag}
use Rattle.wcv_lower.specs.CoreInstances.{core_instance_step}
use Rattle.wcv_lower.specs.Instances.{instance_step}
use Rattle.wcv_lower.specs.Trees.{tree_maker}
use Rattle.wcv_world.specs.Growth.{named_alone}
use Rattle.wcv_world.specs.Reading.{value_maker}
use Rattle.wcv_safety.proofs.Agreeing.{grown-follows}
use Rattle.wcv_safety.proofs.Bags.{bag-follows}
use Rattle.wcv_safety.proofs.CoreBags.{core-bag-follows}
use Rattle.wcv_safety.proofs.laws.listing_instances_keep_agreement.Goals as goal

pub returns-clause-instances : goal.returns-clause-instances
returns-clause-instances c fs n names other R p q args g v s u es h a x =
    grown-follows g v s u (instance_step (value_maker other q) v (bag (map named_alone es))) (instance_step (tree_maker names p) s (bag es)) (λ y k f. bag-follows names other p q g v s h a es y k) x

pub returns-clause-core : goal.returns-clause-core
returns-clause-core c fs n names other R p q args g v s u es h a x =
    grown-follows g v s u (core_instance_step (value_maker other q) v (core_bag es)) (core_instance_step (tree_maker names p) s (core_bag es)) (λ y k f. core-bag-follows g v s h a names other p q es y k) x
