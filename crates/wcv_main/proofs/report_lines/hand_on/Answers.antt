use Rattle.std.proofs.Common.{◌≡◌, ◌++◌, ◌∙◌, [], List, ℕ, ap, refl, sym, subst, append-nil, rules, string_bytes}
use Rattle.std.proofs.lemmas.Result.{err_from_is_err_and}
use Rattle.std.specs.Io.KnownBytes.{Appends}
use Rattle.wcv_main.specs.Pump.{AppendsPrefix}
use Rattle.wcv_main.proofs.Known.{appends_nothing}
use Rattle.wcv_main.proofs.report_lines.hand_on.Goals as goal

pub returns-then-len-lt-CHUNK-clause-handed : goal.returns-then-len-lt-CHUNK-clause-handed
returns-then-len-lt-CHUNK-clause-handed g c = ([], appends_nothing _, refl)

pub returns-in_err-write_all-clause-prefix : goal.returns-in_err-write_all-clause-prefix
returns-in_err-write_all-clause-prefix g c =
    let p = err_from_is_err_and c.from_residual.result c.from_residual.ensures.1 in
    rw p.1 (subst (λ (t : List ℕ). AppendsPrefix (g.K.Sink.taken c.args.sink.now) (g.K.Sink.taken c.write_all.new.sink) t) c.as_bytes.ensures.value c.in_err-write_all.ensures.prefix)

pub returns-clause-handed : goal.returns-clause-handed
returns-clause-handed g c =
    let text : List ℕ = string_bytes c.args.text.now in
    let empty : string_bytes c.clear.new.self ≡ [] = search rules in (
      text,
      subst (λ (t : List ℕ). Appends (g.K.Sink.taken c.args.sink.now) (g.K.Sink.taken c.write_all.new.sink) t) c.as_bytes.ensures.value c.in_ok-write_all.ensures.whole,
      sym (append-nil text) ∙ ap (λ (t : List ℕ). text ++ t) (sym empty),
    )
