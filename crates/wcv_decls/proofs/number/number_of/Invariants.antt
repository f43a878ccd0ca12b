use Rattle.std.proofs.Common.{◌≡◌, take, length}
use Rattle.std.specs.List.{fold}
use Rattle.wcv_core.specs.Label.{lower_case}
use Rattle.wcv_core.specs.LabelSet.{mix_step, mixed_from, mixed}
use Rattle.wcv_decls.proofs.number.number_of.Given as goal

abbrev pub invariant-loop-rest : goal.invariant-loop-rest
invariant-loop-rest l = mixed_from l.number (lower_case l.rest) ≡ mixed (lower_case l.label)

abbrev pub decreases-loop-rest : goal.decreases-loop-rest
decreases-loop-rest l = length l.rest

abbrev pub invariant-loop-b : goal.invariant-loop-b
invariant-loop-b l = l.number ≡ fold mix_step l.initial.number (lower_case (take l.b-index l.b-items))
