use Rattle.std.proofs.Common.{◌≡◌, ◌≤◌, ◌++◌, ◌∙◌, [], List, ℕ, nat_lt, false, sym, subst, append_assoc, append-nil, arith, rules, string_bytes}
use Rattle.std.specs.Io.KnownBytes.{Appends}
use Rattle.std.proofs.lemmas.Bool.Decides.{nat_tests}
use Rattle.std.proofs.lemmas.Result.{err_from_is_err_and}
use Rattle.wcv_text.specs.TypeLines.{Leads, lines_left}
use Rattle.wcv_text.proofs.Growing.{leads_on, leads_to_end}
use Rattle.wcv_main.specs.Faults.{Rose}
use Rattle.wcv_main.specs.Pump.{AppendsPrefix}
use Rattle.wcv_main.proofs.Known.{appends_both, begun, begun_more}
use Rattle.wcv_main.proofs.report_lines.write_lines.Goals as goal

pub loop-lines-preserved : goal.loop-lines-preserved
loop-lines-preserved g c = record {
  steady = search rules;
  stand = c.in_ok-push_next.ensures.stand;
  leads = λ whole h.
      let (sent, out, leads) = c.loop-lines.invariant.leads whole h in
      let (more, gone, text_is) = c.in_ok-hand_on.ensures.handed in
      let next : Leads c.push_next.new.self (sent ++ string_bytes c.push_next.new.text) whole = c.in_ok-push_next.ensures.leads sent whole leads in
      (sent ++ more, appends_both _ _ _ sent more out gone, rw (append_assoc sent more (string_bytes c.hand_on.new.text)) (rw (sym text_is) next));
}

pub returns-in_err-push_next : goal.returns-in_err-push_next
returns-in_err-push_next g c =
    let p = err_from_is_err_and c.from_residual.result c.from_residual.ensures.1 in
    rw (p.1, p.2) (λ whole h.
    let (sent, out, leads) = c.loop-lines.invariant.leads whole h in
    let (rest, whole_is) = leads_on _ _ _ leads in
    (begun _ _ sent (string_bytes c.loop-lines.text ++ rest) whole (whole_is ∙ append_assoc sent (string_bytes c.loop-lines.text) rest) out, c.loop-lines.invariant.steady))

pub returns-in_err-hand_on : goal.returns-in_err-hand_on
returns-in_err-hand_on g c =
    let p = err_from_is_err_and c.from_residual-in_err-hand_on.result c.from_residual-in_err-hand_on.ensures.1 in
    let more : List ℕ = string_bytes c.push_next.new.text in
    rw (p.1, p.2) (λ whole h.
    let (sent, out, leads) = c.loop-lines.invariant.leads whole h in
    let next : Leads c.push_next.new.self (sent ++ more) whole = c.in_ok-push_next.ensures.leads sent whole leads in
    let (rest, whole_is) = leads_on _ _ _ next in (
      begun_more _ _ _ sent more rest whole whole_is out c.in_err-hand_on.ensures.prefix,
      subst (λ (n : ℕ). Rose n (g.K.Sink.faults c.hand_on.new.sink)) c.loop-lines.invariant.steady c.in_err-hand_on.ensures.cause.failed,
      subst (λ (n : ℕ). n ≤ g.K.Sink.faults c.hand_on.new.sink) c.loop-lines.invariant.steady c.in_err-hand_on.ensures.cause.later,
    ))

pub returns-in_err-write_all : goal.returns-in_err-write_all
returns-in_err-write_all g c =
    let p = err_from_is_err_and c.from_residual-in_err-write_all.result c.from_residual-in_err-write_all.ensures.1 in
    let text : List ℕ = string_bytes c.loop-lines.text in
    let left : nat_lt 0 (lines_left c.loop-lines.lines) ≡ false = sym c.is_left.ensures ∙ c.loop-lines-test.false in
    let none : lines_left c.loop-lines.lines ≡ 0 = grind (arith, nat_tests) in
    let prefix : AppendsPrefix (g.K.Sink.taken c.loop-lines.sink) (g.K.Sink.taken c.write_all.new.sink) text =
    subst (λ (t : List ℕ). AppendsPrefix (g.K.Sink.taken c.loop-lines.sink) (g.K.Sink.taken c.write_all.new.sink) t) c.as_bytes.ensures.value c.in_err-write_all.ensures.prefix in
    rw (p.1, p.2) (λ whole h.
    let (sent, out, leads) = c.loop-lines.invariant.leads whole h in
    let whole_is : whole ≡ sent ++ text = leads_to_end _ _ _ none leads in (
      begun_more _ _ _ sent text [] whole (whole_is ∙ sym (append-nil (sent ++ text))) out prefix,
      subst (λ (n : ℕ). Rose n (g.K.Sink.faults c.write_all.new.sink)) c.loop-lines.invariant.steady c.in_err-write_all.ensures.cause.failed,
      subst (λ (n : ℕ). n ≤ g.K.Sink.faults c.write_all.new.sink) c.loop-lines.invariant.steady c.in_err-write_all.ensures.cause.later,
    ))

pub returns : goal.returns
returns g c =
    let text : List ℕ = string_bytes c.loop-lines.text in
    let left : nat_lt 0 (lines_left c.loop-lines.lines) ≡ false = sym c.is_left.ensures ∙ c.loop-lines-test.false in
    let none : lines_left c.loop-lines.lines ≡ 0 = grind (arith, nat_tests) in
    let written : Appends (g.K.Sink.taken c.loop-lines.sink) (g.K.Sink.taken c.write_all.new.sink) text =
    subst (λ (t : List ℕ). Appends (g.K.Sink.taken c.loop-lines.sink) (g.K.Sink.taken c.write_all.new.sink) t) c.as_bytes.ensures.value c.in_ok-write_all.ensures.whole in
    λ whole h.
    let (sent, out, leads) = c.loop-lines.invariant.leads whole h in
    let whole_is : whole ≡ sent ++ text = leads_to_end _ _ _ none leads in
    (subst (λ (t : List ℕ). Appends (g.K.Sink.taken c.args.sink.now) (g.K.Sink.taken c.write_all.new.sink) t) (sym whole_is) (appends_both _ _ _ sent text out written), c.in_ok-write_all.ensures.cause.steady ∙ c.loop-lines.invariant.steady)
