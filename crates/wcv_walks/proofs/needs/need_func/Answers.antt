use Rattle.std.proofs.Common.{◌<◌, ◌≤◌, ◌+◌, ◌∙◌, ap, length, get_or, subst, Some, sym}
use Rattle.std.proofs.lemmas.Result.{on_ok_weaker}
use Rattle.wcv_types.specs.Named.{is_named}
use Rattle.wcv_walks.specs.Needing.{beside}
use Rattle.wcv_types.specs.Tree.{here}
use Rattle.wcv_types.specs.Unfold.{option_slot, slot_tree, trees}
use Rattle.wcv_types.proofs.Knowing.{given_stands, given_result, named_from, named_next, named_last}
use Rattle.wcv_walks.proofs.Needing.{needs_as, all_left_to_do, one_done, last_done}
use Rattle.wcv_walks.proofs.needs.need_func.Goals as goal

pub loop-param-init : goal.loop-param-init
loop-param-init c = (
  all_left_to_do c.args.types.now (λ ids. named_from (beside ids c.args.created.now c.args.set.now) (trees c.args.types.now.nodes) c.args.shape.now 0) c.args.needed.now c.requires.needed,
  c.requires.seen,
)

pub need_value-requires-clause-value : goal.need_value-requires-clause-value
need_value-requires-clause-value c =
    given_stands c.args.types.now c.args.shape.now.params.items (here, option_slot c.args.shape.now.result) c.loop-param.param-index c.param-item.result c.requires.stands
    (subst (λ ps. c.loop-param.param-index < length ps) c.deref-param-items.ensures.value c.loop-param-test.true)
    (c.param-item.is ∙ ap (λ ps. get_or ps c.loop-param.param-index c.param-item.result) c.deref-param-items.ensures.value)

pub loop-param-preserved : goal.loop-param-preserved
loop-param-preserved c =
    let ts = trees c.args.types.now.nodes in (
      one_done c.args.types.now (λ ids. named_from (beside ids c.args.created.now c.args.set.now) ts c.args.shape.now 0) (λ ids. named_from (beside ids c.args.created.now c.args.set.now) ts c.args.shape.now c.loop-param.param-index)
          (λ ids. is_named (beside ids c.args.created.now c.args.set.now) (slot_tree ts (option_slot (Some c.param-item.result.1)))) (λ ids. named_from (beside ids c.args.created.now c.args.set.now) ts c.args.shape.now (c.loop-param.param-index + 1))
          c.args.needed.now c.loop-param.needed c.need_value.new.needed c.loop-param.invariant.0 c.in_ok-need_value.ensures.needed
          (λ ids. named_next (beside ids c.args.created.now c.args.set.now) ts c.args.shape.now c.loop-param.param-index c.param-item.result
          (subst (λ ps. c.loop-param.param-index < length ps) c.deref-param-items.ensures.value c.loop-param-test.true)
          (c.param-item.is ∙ ap (λ ps. get_or ps c.loop-param.param-index c.param-item.result) c.deref-param-items.ensures.value)),
      c.in_ok-need_value.ensures.seen,
    )

pub need_value-requires-2-clause-value : goal.need_value-requires-2-clause-value
need_value-requires-2-clause-value c = given_result c.args.types.now c.args.shape.now.params.items (here, option_slot c.args.shape.now.result) c.requires.stands

pub returns-clause-needed : goal.returns-clause-needed
returns-clause-needed c =
    let ts = trees c.args.types.now.nodes in
    let ended : length c.args.shape.now.params.items ≤ c.loop-param.param-index = subst (λ ps. length ps ≤ c.loop-param.param-index) c.deref-param-items.ensures.value c.loop-param-test.false in
    on_ok_weaker c.need_value-2.result
    (λ w. last_done c.args.types.now (λ ids. named_from (beside ids c.args.created.now c.args.set.now) ts c.args.shape.now 0) (λ ids. named_from (beside ids c.args.created.now c.args.set.now) ts c.args.shape.now c.loop-param.param-index)
    c.args.needed.now c.loop-param.needed c.need_value-2.new.needed c.loop-param.invariant.0
    (needs_as c.args.types.now (λ ids. is_named (beside ids c.args.created.now c.args.set.now) (slot_tree ts (option_slot c.args.shape.now.result)))
    (λ ids. named_from (beside ids c.args.created.now c.args.set.now) ts c.args.shape.now c.loop-param.param-index) c.loop-param.needed c.need_value-2.new.needed
    (λ ids. sym (named_last (beside ids c.args.created.now c.args.set.now) ts c.args.shape.now c.loop-param.param-index ended)) w))
    c.need_value-2.ensures.needed
