use Rattle.std.proofs.Common.{[], ◌∷◌, refl}
use Rattle.std.proofs.lemmas.Result.{on_ok_weaker}
use Rattle.wcv_syntax.specs.Model.{instance_item}
use Rattle.wcv_syntax.specs.View.{instance_view}
use Rattle.wcv_call_tests.proofs.driving.add_to_reached.Goals as goal

pub add_instance-requires-clause-opens : goal.add_instance-requires-clause-opens
add_instance-requires-clause-opens c = c.states_that_are_reached_may_instantiate.ensures.may c.args.types.now (c.args.state.now ∷ []) (instance_view c.args.instance) c.requires.reached

pub returns : goal.returns
returns c = record {
  reached = on_ok_weaker c.add_instance.result
      (λ grew. c.states_that_are_reached_may_instantiate.ensures.grown c.args.types.now c.add_instance.new.types c.args.state.now c.add_instance.new.self (instance_item (instance_view c.args.instance)) c.requires.reached refl c.requires.left
      c.add_instance.ensures.keeps grew)
      c.add_instance.ensures.ok;
}
