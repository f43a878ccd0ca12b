use Rattle.std.proofs.Common.{◌∙◌, ap}
use Rattle.wcv_lower.specs.Checks.{has_repeat}
use Rattle.wcv_instances.proofs.Differing.{none_repeats}
use Rattle.wcv_instances.proofs.component_instances.check_args_differ.Goals as goal

pub returns-then-has_names-clause-ok : goal.returns-then-has_names-clause-ok
returns-then-has_names-clause-ok c =
    let apart = (c.nodes_fit.ensures.again _ _ c.get.ensures.found).apart.0 in
    (ap has_repeat (c.has_names.ensures.same c.if-has_names.true) ∙ none_repeats _ apart, tt)
