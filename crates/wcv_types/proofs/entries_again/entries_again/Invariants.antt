use Rattle.wcv_types.proofs.EntriesRefilled.{Refilled}
use Rattle.wcv_types.proofs.entries_again.entries_again.Given as goal

abbrev pub invariant-loop-entry : goal.invariant-loop-entry
invariant-loop-entry l = Refilled l.entries l.initial.parts l.entry-index l.again l.parts
