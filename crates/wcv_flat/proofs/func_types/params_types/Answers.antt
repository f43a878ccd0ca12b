use Rattle.std.proofs.Common.{◌<◌, ◌+◌, ◌++◌, length, take, get_or, sym, ◌∙◌, ap, subst, arith}
use Rattle.std.proofs.lemmas.List.{length-take}
use Rattle.wcv_core.specs.Names.{Name}
use Rattle.wcv_types.specs.Tree.{here, Parts}
use Rattle.wcv_types.specs.Unfold.{option_slot, value_slot, slot_tree, trees}
use Rattle.wcv_types.specs.Open.{listed, open_all, open_flat}
use Rattle.wcv_types.proofs.Knowing.{given_stands}
use Rattle.wcv_types.proofs.Cutting.{cut_full, list_next, list_last}
use Rattle.wcv_flat.proofs.Signing.{params_from, params_next, params_last, all_params}
use Rattle.wcv_flat.proofs.func_types.params_types.Goals as goal

pub flat_types-requires : goal.flat_types-requires
flat_types-requires c =
    given_stands c.args.types.now c.args.ty.now.params.items (here, option_slot c.args.ty.now.result) c.loop-param.param-index c.param-item.result c.requires
    (subst (λ ps. c.loop-param.param-index < length ps) c.deref-param-items.ensures.value c.loop-param-test.true)
    (c.param-item.is ∙ ap (λ ps. get_or ps c.loop-param.param-index c.param-item.result) c.deref-param-items.ensures.value)

pub loop-param-preserved : goal.loop-param-preserved
loop-param-preserved c =
    let next = params_next (trees c.args.types.now.nodes) c.args.ty.now c.loop-param.param-index c.param-item.result
    (subst (λ ps. c.loop-param.param-index < length ps) c.deref-param-items.ensures.value c.loop-param-test.true)
    (c.param-item.is ∙ ap (λ ps. get_or ps c.loop-param.param-index c.param-item.result) c.deref-param-items.ensures.value) in
    list_next 17 (listed c.loop-param.list) (listed c.flat_types.result) (listed c.append.new.self) (open_flat (slot_tree (trees c.args.types.now.nodes) (value_slot c.param-item.result.1)))
    (open_all (params_from (trees c.args.types.now.nodes) c.args.ty.now (c.loop-param.param-index + 1))) c.flat_types.ensures c.append.ensures ∙
    ap (λ (ps : Parts Name Name). take 17 (listed c.loop-param.list ++ open_all ps)) (sym next) ∙ c.loop-param.invariant

pub returns-then-is_full : goal.returns-then-is_full
returns-then-is_full c =
    sym (cut_full 17 (listed c.loop-param.list) (open_all (params_from (trees c.args.types.now.nodes) c.args.ty.now c.loop-param.param-index)) (c.is_full.ensures.full c.if-is_full.true)) ∙
    c.loop-param.invariant ∙ ap (λ (ps : Parts Name Name). take 17 (open_all ps)) (all_params c.args.types.now c.args.ty.now)

pub returns : goal.returns
returns c =
    let none = params_last (trees c.args.types.now.nodes) c.args.ty.now c.loop-param.param-index (omega (arith, c.loop-param-test.false, ap length c.deref-param-items.ensures.value)) in
    sym (list_last 17 (listed c.loop-param.list) (open_all (params_from (trees c.args.types.now.nodes) c.args.ty.now c.loop-param.param-index)) (omega (arith, length-take c.loop-param.list.len c.loop-param.list.types))
    (ap (λ (ps : Parts Name Name). open_all ps) none)) ∙
    c.loop-param.invariant ∙ ap (λ (ps : Parts Name Name). take 17 (open_all ps)) (all_params c.args.types.now c.args.ty.now)
