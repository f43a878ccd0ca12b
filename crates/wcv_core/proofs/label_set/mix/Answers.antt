use Rattle.std.proofs.Common.{◌∙◌}
use Rattle.wcv_core.proofs.Mixing.{eight_more}
use Rattle.wcv_core.proofs.label_set.mix.Goals as goal

pub loop-rest-preserved : goal.loop-rest-preserved
loop-rest-preserved c =
    eight_more c.loop-rest.number c.mix_step-number.result c.from_le_bytes-part.result c.loop-rest.rest.now c.in-len8-up.len_at_least c.from_le_bytes-part.ensures c.mix_step-number.ensures ∙ c.loop-rest.invariant
