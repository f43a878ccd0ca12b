use Rattle.wcv_lower.proofs.Calm.{calm_inside}
use Rattle.wcv_lower.proofs.CalmEnds.{calm_ended}
use Rattle.wcv_lower.proofs.laws.a_component_keeps_a_stack_calm.Goals as goal

pub returns : goal.returns
returns c = record { opened = calm_inside; closed = calm_ended }
