use Rattle.std.proofs.Common.{◌≡◌, take}
use Rattle.wcv_core.specs.CoreCode.{all_codes}
use Rattle.wcv_instances.proofs.UsedEach.{argument_value}
use Rattle.wcv_instances.proofs.component_instances.argument_values.Given as goal

abbrev pub invariant-loop-arg : goal.invariant-loop-arg
invariant-loop-arg l = l.values.items ≡ all_codes argument_value (take l.arg-index l.args)
