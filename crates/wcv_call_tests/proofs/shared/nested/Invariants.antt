use Rattle.std.proofs.Common.{◌+◌}
use Rattle.wcv_types.specs.declared.ids.Part.TheVariants as p
use Rattle.wcv_call_tests.specs.MadeOf.{IsMadeOf}
use Rattle.wcv_call_tests.proofs.shared.nested.Given as goal

-- each round adds a tuple
abbrev pub invariant-loop : goal.invariant-loop
invariant-loop l = IsMadeOf l.types (l.counter + 2) (p.Defined l.made)
