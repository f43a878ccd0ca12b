use Rattle.std.proofs.Common.{◌∙◌, Bool, cond, None, ap, subst}
use Rattle.std.specs.Option.{option_map}
use Rattle.wcv_syntax.specs.Model.{core_instantiate}
use Rattle.wcv_lower.specs.CoreInstances.{core_instance_step}
use Rattle.wcv_lower.specs.Step.{Step, apply}
use Rattle.wcv_lower.specs.Trees.{Tree_stack, tree_reader, tree_maker}
use Rattle.wcv_growth.proofs.Known.{mapped-some}
use Rattle.wcv_world.specs.Reading.{value_reader, value_maker}
use Rattle.wcv_safety.specs.Agreeing.{AgreeReadings}
use Rattle.wcv_safety.proofs.CoreInstantiated.{core-instance-follows}
use Rattle.wcv_safety.proofs.laws.core_instances_keep_agreement.Goals as goal

pub returns : goal.returns
returns c fs n names other R p q args g v s u i cs table supers h a serve e =
    let y = mapped-some (λ (y : Step tree_reader). apply y s) (core_instance_step (tree_maker names p) s (core_instantiate i cs)) u e in
    let x = core-instance-follows g v s table supers h a names other p q i cs y.0 serve y.1 in (
      apply x.1.0 v,
      ap (λ (b : Bool). cond b (option_map (λ (z : Step value_reader). apply z v) (core_instance_step (value_maker other q) v (core_instantiate i cs))) None) x.0 ∙ ap (option_map (λ (z : Step value_reader). apply z v)) x.1.1,
      subst (λ (z : Tree_stack). AgreeReadings g (apply x.1.0 v) z) y.2 x.1.2,
    )
