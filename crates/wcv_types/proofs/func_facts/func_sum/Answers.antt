use Rattle.std.proofs.Common.{rules, ◌≤◌, List, [], length, take, take_all, sym, subst}
use Rattle.wcv_types.specs.Sums.{IsSumOf}
use Rattle.wcv_types.specs.Tree.{Text, Role, here, label}
use Rattle.wcv_types.specs.Unfold.{Type_tree, Slot, Slots, value_slot, option_slot, field_slots, slot_parts, trees}
use Rattle.wcv_types.specs.declared.shapes.ComponentValType.{ComponentValType}
use Rattle.wcv_types.proofs.Knowing.{given_stands, given_result, fields_behind, fields_next}
use Rattle.wcv_types.proofs.func_facts.func_sum.Goals as goal

pub value_facts-requires : goal.value_facts-requires
value_facts-requires c = given_stands c.args.types.now c.args.params.now (here, option_slot c.args.gives) c.loop-param.param-index c.param-item.result c.requires c.loop-param-test.true c.param-item.is

pub loop-param-preserved : goal.loop-param-preserved
loop-param-preserved c =
    let ts : List Type_tree = trees c.args.types.now.nodes in
    let f : Text × ComponentValType = c.param-item.result in
    record {
      sum = subst (λ (ss : Slots). IsSumOf c.add.new.self (slot_parts ts ss)) (sym (fields_next c.args.params.now c.loop-param.param-index f c.loop-param-test.true c.param-item.is))
          (c.add.ensures ts (field_slots (take c.loop-param.param-index c.args.params.now) []) (label f.0, value_slot f.1) c.loop-param.invariant.sum c.value_facts.ensures.facts c.value_facts.ensures.plain);
    }

pub value_facts-requires-2 : goal.value_facts-requires-2
value_facts-requires-2 c = given_result c.args.types.now c.args.params.now (here, option_slot c.args.gives) c.requires

pub returns : goal.returns
returns c =
    let ts : List Type_tree = trees c.args.types.now.nodes in
    let x : Role × Slot = (here, option_slot c.args.gives) in
    let h : length c.args.params.now ≤ c.loop-param.param-index = search rules in
    let all : IsSumOf c.loop-param.sum (slot_parts ts (field_slots c.args.params.now [])) =
    subst (λ (fs : List (Text × ComponentValType)). IsSumOf c.loop-param.sum (slot_parts ts (field_slots fs []))) (take_all c.loop-param.param-index c.args.params.now h) c.loop-param.invariant.sum in
    subst (λ (ss : Slots). IsSumOf c.add-2.new.self (slot_parts ts ss)) (sym (fields_behind c.args.params.now x))
    (c.add-2.ensures ts (field_slots c.args.params.now []) x all c.value_facts-2.ensures.facts c.value_facts-2.ensures.plain)
