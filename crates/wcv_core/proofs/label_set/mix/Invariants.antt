use Rattle.std.proofs.Common.{◌≡◌, take, length}
use Rattle.std.specs.List.{fold}
use Rattle.wcv_core.specs.LabelSet.{mix_step, mixed_from, mixed}
use Rattle.wcv_core.proofs.label_set.mix.Given as goal

abbrev pub invariant-loop-rest : goal.invariant-loop-rest
invariant-loop-rest l = mixed_from l.number l.rest ≡ mixed l.text

abbrev pub decreases-loop-rest : goal.decreases-loop-rest
decreases-loop-rest l = length l.rest

abbrev pub invariant-loop-b : goal.invariant-loop-b
invariant-loop-b l = l.number ≡ fold mix_step l.initial.number (take l.b-index l.b-items)
