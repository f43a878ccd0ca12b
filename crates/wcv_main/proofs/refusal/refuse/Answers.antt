use Rattle.std.proofs.Common.{inr, refl, sym, subst, List, ℕ, []}
use Rattle.wcv_core.specs.Refusal.{error_kind, error_offset}
use Rattle.wcv_main.specs.Due.{refusal_text, IsRefusalText}
use Rattle.wcv_main.proofs.Known.{appends_nothing}
use Rattle.wcv_main.proofs.refusal.refuse.Goals as goal

pub returns-in-Ok : goal.returns-in-Ok
returns-in-Ok g c = (c.as_str.result.now, subst (λ (t : List ℕ). IsRefusalText (error_kind c.args.error.now) (error_offset c.args.error.now) t) (sym c.as_str.ensures.value) c.in-Ok.ensures, c.finish.ensures)

pub returns-in-Err : goal.returns-in-Err
returns-in-Err g c = (refusal_text (error_kind c.args.error.now) (error_offset c.args.error.now) [], ([], refl), inr (inr (refl, (0, appends_nothing _), refl)))
