use Rattle.wcv_decls.specs.Declaring.{AreReady}
use Rattle.wcv_call_tests.proofs.depth.a_hundred_are_open.Given as goal

-- over which items may be read
abbrev pub invariant-loop-offset : goal.invariant-loop-offset
invariant-loop-offset l = AreReady l.types l.states.items
