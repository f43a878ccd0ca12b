use Rattle.wcv_instances.proofs.UsedEach.{UsedTo}
use Rattle.wcv_instances.proofs.component_instances.use_values.Given as goal

abbrev pub invariant-loop-value : goal.invariant-loop-value
invariant-loop-value l = UsedTo l.initial.state l.state l.values l.value-index
