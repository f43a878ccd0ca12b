use Rattle.std.proofs.Common.{ℕ, ◌∙◌, ap}
use Rattle.wcv_types.specs.Open.{listed}
use Rattle.wcv_types.specs.declared.flat_type.FlatType.TheVariants as f
use Rattle.wcv_flat.specs.Signature.{spilled}
use Rattle.wcv_flat.proofs.Signing.{params_whole}
use Rattle.wcv_flat.proofs.lowering.lowered_params.Goals as goal

pub returns : goal.returns
returns c =
    params_whole c.args.abi c.args.concurrency (listed c.args.params.now) (listed c.args.gives.now) (listed c.spilled-list.result) (listed c.return_pointer.result) (listed c.append.new.self)
    (c.spilled-list.ensures ∙ ap (λ (j : ℕ). spilled f.Pointer j (listed c.args.params.now)) c.param_limit.ensures.limit) c.return_pointer.ensures c.append.ensures
