use Rattle.std.proofs.Common.{◌<◌, ◌+◌, ◌||◌, length, get_or, sym, ◌∙◌, ap, subst, arith, Bool}
use Rattle.wcv_types.specs.Abi.{pointer, any_contains}
use Rattle.wcv_types.specs.Tree.{here}
use Rattle.wcv_types.specs.Unfold.{option_slot, trees}
use Rattle.wcv_types.proofs.Knowing.{given_stands}
use Rattle.wcv_flat.proofs.Signing.{params_from, params_next, params_last, all_params}
use Rattle.wcv_flat.proofs.func_types.params_point.Goals as goal

pub value_points-requires : goal.value_points-requires
value_points-requires c =
    given_stands c.args.types.now c.args.ty.now.params.items (here, option_slot c.args.ty.now.result) c.loop-param.param-index c.param-item.result c.requires
    (subst (λ ps. c.loop-param.param-index < length ps) c.deref-param-items.ensures.value c.loop-param-test.true)
    (c.param-item.is ∙ ap (λ ps. get_or ps c.loop-param.param-index c.param-item.result) c.deref-param-items.ensures.value)

pub loop-param-preserved : goal.loop-param-preserved
loop-param-preserved c =
    let next = params_next (trees c.args.types.now.nodes) c.args.ty.now c.loop-param.param-index c.param-item.result
    (subst (λ ps. c.loop-param.param-index < length ps) c.deref-param-items.ensures.value c.loop-param-test.true)
    (c.param-item.is ∙ ap (λ ps. get_or ps c.loop-param.param-index c.param-item.result) c.deref-param-items.ensures.value) in
    c.loop-param.invariant ∙ ap (any_contains pointer) next ∙
    ap (λ (b : Bool). b || any_contains pointer (params_from (trees c.args.types.now.nodes) c.args.ty.now (c.loop-param.param-index + 1))) (sym c.value_points.ensures ∙ c.if-value_points.false)

pub returns-then-value_points : goal.returns-then-value_points
returns-then-value_points c =
    let next = params_next (trees c.args.types.now.nodes) c.args.ty.now c.loop-param.param-index c.param-item.result
    (subst (λ ps. c.loop-param.param-index < length ps) c.deref-param-items.ensures.value c.loop-param-test.true)
    (c.param-item.is ∙ ap (λ ps. get_or ps c.loop-param.param-index c.param-item.result) c.deref-param-items.ensures.value) in
    sym (ap (any_contains pointer) (sym (all_params c.args.types.now c.args.ty.now)) ∙ c.loop-param.invariant ∙ ap (any_contains pointer) next ∙
    ap (λ (b : Bool). b || any_contains pointer (params_from (trees c.args.types.now.nodes) c.args.ty.now (c.loop-param.param-index + 1))) (sym c.value_points.ensures ∙ c.if-value_points.true))

pub returns : goal.returns
returns c =
    let none = params_last (trees c.args.types.now.nodes) c.args.ty.now c.loop-param.param-index (omega (arith, c.loop-param-test.false, ap length c.deref-param-items.ensures.value)) in
    sym (ap (any_contains pointer) (sym (all_params c.args.types.now c.args.ty.now)) ∙ c.loop-param.invariant ∙ ap (any_contains pointer) none)
