use Rattle.std.proofs.Common.{ℕ, ◌||◌, nat_lt, ◌∙◌, ap, refl}
use Rattle.wcv_types.specs.Abi.{pointer, any_contains}
use Rattle.wcv_types.specs.Open.{listed}
use Rattle.wcv_flat.specs.Functions.{func_parts}
use Rattle.wcv_flat.specs.Options.{pointer_size, use_checks}
use Rattle.wcv_flat.specs.Signature.{params_in, exceeds}
use Rattle.wcv_flat.proofs.Signing.{uses_are}
use Rattle.wcv_flat.proofs.lowering.passed_of.Goals as goal

pub returns-clause-uses : goal.returns-clause-uses
returns-clause-uses c =
    let by_params = c.params_use-by_params.ensures ∙ ap (λ (j : ℕ). exceeds j (listed c.params_types-params.result) || any_contains pointer (params_in (func_parts c.args.types.now c.args.ty.now))) c.param_limit.ensures.limit in
    (λ i. use_checks c.args.options.now c.args.abi (by_params i) (nat_lt (c.result_limit.ensures.limit i) (c.len.ensures.len i) || c.result_points-points.ensures i) (c.result_points-points.ensures i)) ∙
    uses_are (pointer_size c.args.options.now) c.args.abi c.args.options.now.concurrency (func_parts c.args.types.now c.args.ty.now) (listed c.params_types-params.result) (listed c.result_types-gives.result) c.params_types-params.ensures c.result_types-gives.ensures c.args.options.now refl refl
