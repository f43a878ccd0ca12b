use Rattle.std.proofs.Common.{◌≡◌, ◌++◌, ◌∙◌, [], List, ℕ, ap, refl, subst, rules, string_bytes, Ok, Err}
use Rattle.std.specs.Prelude.{Option, Result}
use Rattle.std.proofs.lemmas.Result.{err_from_is_err_and}
use Rattle.wcv_types.specs.ComponentTrees.{root_tree}
use Rattle.wcv_types.specs.Text.{type_text}
use Rattle.wcv_main.specs.Pump.{Goes}
use Rattle.wcv_main.specs.Report.{report, space_lengths}
use Rattle.wcv_main.specs.declared.pump.WriteError.{WriteError}
use Rattle.wcv_main.specs.declared.pump.WriteError.TheVariants as write_error
use Rattle.wcv_main.proofs.Known.{appends_nothing}
use Rattle.wcv_main.proofs.report_lines.write_report.Goals as goal

pub returns : goal.returns
returns g c =
    let lines : List ℕ = type_text c.args.accepted.now.types.core (root_tree c.args.accepted.now.types c.args.accepted.now.ty) in
    let empty : string_bytes c.new-text.result ≡ [] = search rules in
    let text_is : string_bytes c.push_report.new.text ≡ report (space_lengths c.args.accepted.now.state.spaces) =
    c.in_ok-push_report.ensures ∙ ap (λ (t : List ℕ). t ++ report c.space_lengths.result) empty ∙ ap report c.space_lengths.ensures in
    subst (λ (r : List ℕ). Goes c.write_lines.result (g.K.Sink.taken c.args.sink.now) (g.K.Sink.taken c.write_lines.new.sink) (r ++ lines) (g.K.Sink.faults c.args.sink.now) (g.K.Sink.faults c.write_lines.new.sink)) text_is
    (c.write_lines.ensures _ (c.in_ok-lines.ensures.leads (string_bytes c.push_report.new.text)))

-- where memory ended, nothing was written
memory_ended : {T : Type 0} (r : Result T WriteError) (told : Option (List ℕ)) (text : List ℕ) (faults : ℕ) → r ≡ Err write_error.Memory → Goes r told told text faults faults
memory_ended (Ok x) told text faults e = cc
memory_ended (Err write_error.Failed) told text faults e = cc
memory_ended (Err write_error.Memory) told text faults e = ((0, appends_nothing told), refl)

pub returns-in_err-lines : goal.returns-in_err-lines
returns-in_err-lines g c =
    let p = err_from_is_err_and c.from_residual-in_err-lines.result c.from_residual-in_err-lines.ensures.1 in
    memory_ended c.from_residual-in_err-lines.result (g.K.Sink.taken c.args.sink.now) _ (g.K.Sink.faults c.args.sink.now) (p.1 ∙ ap Err p.2)
