use Rattle.std.proofs.Common.{subst, sym}
use Rattle.wcv_syntax.specs.Model.{core_module_type}
use Rattle.wcv_lower.specs.CoreItems.{group_step, core_type_step, core_module_step}
use Rattle.wcv_lower.specs.Trees.{Tree_stack, tree_maker}
use Rattle.wcv_growth.specs.Kept.{IsPrefix}
use Rattle.wcv_world.specs.Reading.{value_maker}
use Rattle.wcv_safety.proofs.Agreeing.{grown-follows}
use Rattle.wcv_safety.proofs.CoreModules.{module-follows, module-type-follows}
use Rattle.wcv_safety.proofs.CoreTypes.{group-follows}
use Rattle.wcv_safety.proofs.laws.core_types_keep_agreement.Goals as goal

pub returns-clause-groups : goal.returns-clause-groups
returns-clause-groups c fs n names R p args mk g v s u w table t h a x q =
    grown-follows g v s u (group_step v w) (group_step s w) (λ y k f. group-follows g v s h a w y table t (subst (λ (z : Tree_stack). IsPrefix z.groups v.groups) (sym f) q) k) x

pub returns-clause-types : goal.returns-clause-types
returns-clause-types c fs n names other R p q args g v s u ds table t h a w x l =
    grown-follows g v s u (core_type_step fs (value_maker other q) v (core_module_type ds)) (core_type_step fs (tree_maker names p) s (core_module_type ds))
    (λ y k f. module-type-follows g v s h a names other p q fs ds y table t (subst (λ (z : Tree_stack). IsPrefix z.groups v.groups) (sym f) l) w k) x

pub returns-clause-modules : goal.returns-clause-modules
returns-clause-modules c fs n names other R p q args g v s u ds table t h a w x l =
    grown-follows g v s u (core_module_step fs (value_maker other q) v ds) (core_module_step fs (tree_maker names p) s ds)
    (λ y k f. module-follows g v s h a names other p q fs ds y table t (subst (λ (z : Tree_stack). IsPrefix z.groups v.groups) (sym f) l) w k) x
