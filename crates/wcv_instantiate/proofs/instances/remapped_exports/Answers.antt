use Rattle.std.proofs.Common.{◌∙◌, ap}
use Rattle.std.proofs.lemmas.Result.{IfOk-weaker}
use Rattle.wcv_instantiate.proofs.ExportsAnew.{exports_are_made}
use Rattle.wcv_types.specs.Entities.{retyped}
use Rattle.wcv_instantiate.proofs.instances.remapped_exports.Goals as goal

pub returns-clause-ok : goal.returns-clause-ok
returns-clause-ok g c =
    IfOk-weaker c.with_types.result _ _ (λ ys e. exports_are_made _ _ _ _ c.args.exports.now ys c.in_ok-tys.tys.items c.in_ok-tys.ensures.ok (e ∙ ap (retyped c.args.exports.now) c.as_slice.ensures.value)) c.with_types.ensures
