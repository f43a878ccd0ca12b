use Rattle.wcv_call_tests.proofs.states.holds.Goals as goal

pub answers-requires : goal.answers-requires
answers-requires c = c.in-Ok.ensures c.new-types.result
