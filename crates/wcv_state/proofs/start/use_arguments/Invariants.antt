use Rattle.wcv_state.proofs.Starts.{ArgumentsUsed}
use Rattle.wcv_state.proofs.start.use_arguments.Given as goal

-- the first are used, each for its parameter
abbrev pub invariant-loop-k : goal.invariant-loop-k
invariant-loop-k l = ArgumentsUsed l.types l.initial.values l.args l.params l.k l.values
