use Rattle.std.proofs.Common.{◌≡◌, ◌∷◌, ◌++◌, ◌∙◌, [], sym, rules}
use Rattle.wcv_text.proofs.Grouping.{popped_done}
use Rattle.wcv_text.proofs.groups.push_group.Goals as goal

pub loop-step-preserved : goal.loop-step-preserved
loop-step-preserved c =
    let items : c.loop-step.steps.items ≡ c.pop.new.self.items ++ c.in-Some.step ∷ [] = search rules in
    record {
      goes = λ before w h.
          let so = c.loop-step.invariant.goes before w h in
          let now = c.in_ok-take_step.ensures.goes before so.0 so.1 in
          (now.0, now.1, now.2 ∙ sym (popped_done c.loop-step.steps.items c.pop.new.self.items c.in-Some.step so.0 items) ∙ so.2);
      core = c.take_step.ensures.core ∙ c.loop-step.invariant.core;
    }
