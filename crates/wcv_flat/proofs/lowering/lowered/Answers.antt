use Rattle.std.proofs.Common.{◌∙◌, ap}
use Rattle.wcv_core.specs.CoreForm.{func_form}
use Rattle.wcv_types.specs.Open.{listed}
use Rattle.wcv_types.specs.declared.flat_type.FlatType.TheVariants as f
use Rattle.wcv_flat.specs.Flat.{cores}
use Rattle.wcv_flat.specs.Options.{pointer_size}
use Rattle.wcv_flat.specs.Signature.{core_params, core_results}
use Rattle.wcv_flat.proofs.Signing.{core_params_are, core_results_are}
use Rattle.wcv_flat.proofs.lowering.lowered.Goals as goal

pub returns-clause-ok : goal.returns-clause-ok
returns-clause-ok c ps h i =
    let params = c.in_ok-core.ensures.params ∙ ap (cores c.pointer_size-size.result) c.lowered_params-core_params.ensures ∙
    (λ j. cores (c.pointer_size-size.ensures j) (core_params f.Pointer c.args.abi c.args.options.now.concurrency (listed c.args.passed.now.params) (listed c.args.passed.now.gives))) ∙
    core_params_are (pointer_size c.args.options.now) c.args.abi c.args.options.now.concurrency ps (listed c.args.passed.now.params) (listed c.args.passed.now.gives) h i in
    let results = c.in_ok-core.ensures.results ∙ ap (cores c.pointer_size-size.result) c.lowered_results-core_results.ensures ∙
    (λ j. cores (c.pointer_size-size.ensures j) (core_results f.I32 f.Pointer c.args.abi c.args.options.now.concurrency (listed c.args.passed.now.gives))) ∙
    core_results_are (pointer_size c.args.options.now) c.args.abi c.args.options.now.concurrency ps (listed c.args.passed.now.params) (listed c.args.passed.now.gives) h i in
    λ j. func_form (params j) (results j)
