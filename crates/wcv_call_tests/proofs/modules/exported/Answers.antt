use Rattle.std.proofs.Common.{ap, ◌∙◌}
use Rattle.wcv_spaces.specs.Contents.{Contents}
use Rattle.wcv_call_tests.proofs.modules.exported.Goals as goal

pub returns-in-Ok : goal.returns-in-Ok
returns-in-Ok c = record { live = ap (λ (s : Contents). s.spent) c.in-Ok.ensures.same ∙ c.requires.live; stands = c.in-Ok.ensures.keeps.stands }
