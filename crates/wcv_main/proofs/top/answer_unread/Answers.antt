use Rattle.std.proofs.Common.{Option, ℕ, refl, subst}
use Rattle.wcv_main.specs.Answers.{Ends}
use Rattle.wcv_main.specs.Due.{wrong_words, due_of_number, usage}
use Rattle.wcv_main.specs.declared.status.Status.TheVariants as status
use Rattle.wcv_main.proofs.top.answer_unread.Goals as goal

pub returns-in-Some : goal.returns-in-Some
returns-in-Some g c =
    subst (λ (o : Option ℕ). Ends (due_of_number o) c.make.result (g.K.Sink.taken c.args.sink.now) (g.K.Sink.taken c.make.new.sink) (g.K.Sink.faults c.args.sink.now) (g.K.Sink.faults c.make.new.sink)) c.in-Some.ensures.number c.make.ensures

pub returns-in-None : goal.returns-in-None
returns-in-None g c =
    let e : Ends wrong_words c.finish.result (g.K.Sink.taken c.args.sink.now) (g.K.Sink.taken c.finish.new.sink) (g.K.Sink.faults c.args.sink.now) (g.K.Sink.faults c.finish.new.sink) = (status.Words, usage, (refl, refl), c.finish.ensures) in
    subst (λ (o : Option ℕ). Ends (due_of_number o) c.finish.result (g.K.Sink.taken c.args.sink.now) (g.K.Sink.taken c.finish.new.sink) (g.K.Sink.faults c.args.sink.now) (g.K.Sink.faults c.finish.new.sink)) c.in-None.ensures.number e
