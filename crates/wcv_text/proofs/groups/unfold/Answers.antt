use Rattle.std.proofs.Common.{◌≡◌, ◌∷◌, ◌++◌, [], rules}
use Rattle.std.proofs.lemmas.Result.{on_ok_weaker}
use Rattle.wcv_text.specs.Numbers.{so_far}
use Rattle.wcv_text.proofs.Grouping.{unfolded_done, unfolded_steps}
use Rattle.wcv_text.specs.declared.groups.Step.TheVariants as step
use Rattle.wcv_text.proofs.groups.unfold.Goals as goal

pub returns-clause-done : goal.returns-clause-done
returns-clause-done c =
    let items : c.push.new.self.items ≡ c.args.steps.now.items ++ step.Line c.args.id ∷ [] = search rules in
    on_ok_weaker c.push_visits.result
    (λ said t. unfolded_done c.args.steps.now.items c.push.new.self.items c.push_visits.new.steps.items c.in_ok-named.named c.args.id (so_far c.args.numbers.now t) c.requires.no_line c.in_ok-named.ensures items (said (so_far c.args.numbers.now t)))
    c.push_visits.ensures.done

pub returns-clause-count : goal.returns-clause-count
returns-clause-count c =
    let items : c.push.new.self.items ≡ c.args.steps.now.items ++ step.Line c.args.id ∷ [] = search rules in
    on_ok_weaker c.push_visits.result
    (λ said. unfolded_steps c.args.numbers.now.core.now c.args.steps.now.items c.push.new.self.items c.push_visits.new.steps.items c.in_ok-named.named c.args.id c.in_ok-named.ensures items (said c.args.numbers.now.core.now))
    c.push_visits.ensures.count
