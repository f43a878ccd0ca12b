use Rattle.std.proofs.Common.{◌∙◌}
use Rattle.wcv_core.specs.LabelSet.{word}
use Rattle.wcv_decls.proofs.Eight.{eight_lower}
use Rattle.wcv_decls.proofs.number.number_of.Goals as goal

pub loop-rest-preserved : goal.loop-rest-preserved
loop-rest-preserved c =
    eight_lower c.loop-rest.number c.mix_step-number.result c.from_le_bytes-part.result c.loop-rest.rest.now c.in-len8-up.len_at_least (
    c.from_le_bytes-part.ensures ∙
    (λ j. word (c.to_ascii_lowercase.ensures.value j) (c.to_ascii_lowercase-in-len8-up.ensures.value j) (c.to_ascii_lowercase-in-len8-up-2.ensures.value j) (c.to_ascii_lowercase-in-len8-up-3.ensures.value j)
    (c.to_ascii_lowercase-in-len8-up-4.ensures.value j) (c.to_ascii_lowercase-in-len8-up-5.ensures.value j) (c.to_ascii_lowercase-in-len8-up-6.ensures.value j) (c.to_ascii_lowercase-in-len8-up-7.ensures.value j))
    ) c.mix_step-number.ensures ∙
    c.loop-rest.invariant
