use Rattle.wcv_decls.specs.Declaring.{AreReady}
use Rattle.wcv_call_tests.proofs.joining.add_all.Given as goal

abbrev pub invariant-loop-text : goal.invariant-loop-text
invariant-loop-text l = AreReady l.types l.states.items
