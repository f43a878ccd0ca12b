use Rattle.std.proofs.Common.{◌≡◌, take}
use Rattle.wcv_core.specs.CoreCode.{all_codes}
use Rattle.wcv_instances.proofs.UsedEach.{listed_value}
use Rattle.wcv_instances.proofs.component_instances.listed_values.Given as goal

abbrev pub invariant-loop-export : goal.invariant-loop-export
invariant-loop-export l = l.values.items ≡ all_codes listed_value (take l.export-index l.exports)
