use Rattle.std.proofs.Common.{◌<◌, ◌∙◌, ap, length, get_or, subst}
use Rattle.wcv_spaces.proofs.Rooms.{param_stands}
use Rattle.wcv_spaces.proofs.naming.first_unnamed.Goals as goal

pub type_named_valtype-requires-clause-value : goal.type_named_valtype-requires-clause-value
type_named_valtype-requires-clause-value c =
    param_stands c.args.types.now _ c.get-func.result.now c.loop-param.param-index c.param-item.result c.get-func.ensures.before
    (subst (λ ps. c.loop-param.param-index < length ps) c.deref-param-items.ensures.value c.loop-param-test.true)
    (c.param-item.is ∙ ap (λ ps. get_or ps c.loop-param.param-index c.param-item.result) c.deref-param-items.ensures.value)
