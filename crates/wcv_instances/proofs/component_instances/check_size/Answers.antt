use Rattle.std.proofs.Common.{subst}
use Rattle.std.proofs.lemmas.Result.{on_ok_weaker, IfErr-weaker}
use Rattle.wcv_types.specs.Unfold.{tree_at}
use Rattle.wcv_types.specs.declared.ids.Part.TheVariants as p
use Rattle.wcv_lower.specs.Checks.{Checks, IsFree}
use Rattle.wcv_spaces.specs.Promises.{MemoryOrCausedBy}
use Rattle.wcv_instances.proofs.InstanceSizes.{same_checks}
use Rattle.wcv_instances.proofs.component_instances.check_size.Goals as goal

pub returns-clause-ok : goal.returns-clause-ok
returns-clause-ok c = on_ok_weaker c.check_info.result (λ w. subst IsFree (same_checks c.info.result (tree_at c.args.types.now (p.Instance c.args.id)) c.info.ensures) w) c.check_info.ensures.ok

pub returns-clause-err : goal.returns-clause-err
returns-clause-err c =
    IfErr-weaker c.check_info.result _ _ (λ e w. subst (λ (cs : Checks). MemoryOrCausedBy cs c.args.offset e) (same_checks c.info.result (tree_at c.args.types.now (p.Instance c.args.id)) c.info.ensures) w) c.check_info.ensures.err
