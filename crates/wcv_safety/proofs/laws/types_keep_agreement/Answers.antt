use Rattle.wcv_syntax.specs.Model.{defined_type, func_type}
use Rattle.wcv_lower.specs.Trees.{tree_maker}
use Rattle.wcv_lower.specs.Types.{type_step}
use Rattle.wcv_world.specs.Reading.{value_maker}
use Rattle.wcv_safety.proofs.Agreeing.{grown-follows}
use Rattle.wcv_safety.proofs.Types.{defined-follows, func-follows}
use Rattle.wcv_safety.proofs.laws.types_keep_agreement.Goals as goal

pub returns-clause-defined : goal.returns-clause-defined
returns-clause-defined c fs n names other R p q args g v s u d h a x =
    grown-follows g v s u (type_step (value_maker other q) v.top (defined_type d)) (type_step (tree_maker names p) s.top (defined_type d)) (λ y k l. defined-follows names other p q g v s h a d y k) x

pub returns-clause-functions : goal.returns-clause-functions
returns-clause-functions c fs n names other R p q args g v s u f h a x =
    grown-follows g v s u (type_step (value_maker other q) v.top (func_type f)) (type_step (tree_maker names p) s.top (func_type f)) (λ y k l. func-follows names other p q g v s h a f y k) x
