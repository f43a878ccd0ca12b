use Rattle.std.proofs.Common.{◌≡◌, ◌++◌, take, drop}
use Rattle.wcv_state.specs.Stack.{all_spent}
use Rattle.wcv_state.proofs.marks.mark_all_spent.Given as goal

abbrev pub invariant-loop-state : goal.invariant-loop-state
invariant-loop-state l = l.components ≡ all_spent (take l.state-index l.initial.components) ++ drop l.state-index l.initial.components
