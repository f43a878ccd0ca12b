use Rattle.std.proofs.Common.{◌++◌, ◌∷◌, [], ◌∙◌}
use Rattle.wcv_spaces.specs.declared.kind.ComponentKind.TheVariants as kind
use Rattle.wcv_call_tests.proofs.Opened.{alone_ready}
use Rattle.wcv_call_tests.proofs.states.alone.Goals as goal

pub returns : goal.returns
returns c = λ a. alone_ready a kind.Component c.all.result c.push.new.self.items (c.in_ok-push.ensures.items ∙ (λ j. c.new-states.ensures.items j ++ c.new.ensures j ∷ []))
