use Rattle.std.proofs.Common.{subst, sym}
use Rattle.std.specs.Prelude.{OnOk}
use Rattle.wcv_syntax.specs.View.{core_instance_view}
use Rattle.wcv_syntax.specs.declared.core_section.Instance.{Instance}
use Rattle.wcv_instances.specs.CoreInstances.{FreeInstance}
use Rattle.wcv_instances.proofs.core_instances.instance_made.Goals as goal

pub returns-in-Instantiate-clause-free : goal.returns-in-Instantiate-clause-free
returns-in-Instantiate-clause-free c =
    subst (λ (i : Instance). OnOk c.of_module.result (FreeInstance c.args.types.now c.args.state.now (core_instance_view i))) (sym c.in-Instantiate.is) c.of_module.ensures.free

pub returns-in-FromExports-clause-free : goal.returns-in-FromExports-clause-free
returns-in-FromExports-clause-free c =
    subst (λ (i : Instance). OnOk c.of_exports.result (FreeInstance c.args.types.now c.args.state.now (core_instance_view i))) (sym c.in-FromExports.is) c.of_exports.ensures.free
