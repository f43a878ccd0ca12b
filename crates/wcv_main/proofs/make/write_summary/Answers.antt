use Rattle.std.proofs.Common.{inr, refl, subst, ◌∙◌, List, ℕ}
use Rattle.wcv_main.specs.Answers.{Finishes}
use Rattle.wcv_main.specs.declared.status.Status.TheVariants as status
use Rattle.wcv_main.proofs.Known.{appends_nothing}
use Rattle.wcv_main.proofs.make.write_summary.Goals as goal

pub returns-in-Ok : goal.returns-in-Ok
returns-in-Ok g c =
    subst (λ (t : List ℕ). Finishes c.finish.result status.Done (g.K.Sink.taken c.args.sink.now) (g.K.Sink.taken c.finish.new.sink) t (g.K.Sink.faults c.args.sink.now) (g.K.Sink.faults c.finish.new.sink)) (c.as_str.ensures.value ∙ c.in-Ok.ensures) c.finish.ensures

pub returns-in-Err : goal.returns-in-Err
returns-in-Err g c = inr (inr (refl, (0, appends_nothing _), refl))
