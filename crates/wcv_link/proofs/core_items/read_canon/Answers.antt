use Rattle.std.proofs.Common.{refl}
use Rattle.std.proofs.lemmas.Result.{err_from_is_err_and, on_ok_weaker, IfErr-weaker}
use Rattle.wcv_core.proofs.Closing.{caused_same}
use Rattle.wcv_syntax.specs.Model.{Form, canon_item}
use Rattle.wcv_syntax.specs.View.{canon_view}
use Rattle.wcv_types.proofs.Grown.{extends_refl}
use Rattle.wcv_lower.specs.Canons.{canon_left}
use Rattle.wcv_spaces.proofs.Keeping.{keeps_grown}
use Rattle.wcv_link.proofs.Steps.{one_step, item_taken, item_refused, bare_refused}
use Rattle.wcv_link.proofs.core_items.read_canon.Goals as goal

pub returns-in_err-check_canon_limits-clause-err : goal.returns-in_err-check_canon_limits-clause-err
returns-in_err-check_canon_limits-clause-err c =
    let p = err_from_is_err_and c.from_residual.result c.from_residual.ensures.1 in
    let f : Form = canon_item (canon_view c.args.func) in
    rw p.1
    (bare_refused c.args.types.now c.args.state.now f c.args.offset p.0 (one_step f refl)
    (caused_same (canon_left (canon_view c.args.func)) c.args.offset c.in_err-check_canon_limits.field-0.0 p.0 p.2.0 p.2.1 c.in_err-check_canon_limits.ensures.err))

pub returns-in_err-check_canon_limits-clause-keeps : goal.returns-in_err-check_canon_limits-clause-keeps
returns-in_err-check_canon_limits-clause-keeps c = keeps_grown c.args.types.now c.args.types.now c.args.state.now (extends_refl c.args.types.now) c.requires.stands

pub returns-clause-ok : goal.returns-clause-ok
returns-clause-ok c =
    let f : Form = canon_item (canon_view c.args.func) in
    on_ok_weaker c.canonical_function.result
    (λ g. item_taken c.args.types.now c.canonical_function.new.types c.args.state.now c.canonical_function.new.self f (one_step f refl) c.in_ok-check_canon_limits.ensures.ok
    g c.canonical_function.ensures.keeps)
    c.canonical_function.ensures.ok

pub returns-clause-err : goal.returns-clause-err
returns-clause-err c =
    let f : Form = canon_item (canon_view c.args.func) in
    IfErr-weaker c.canonical_function.result _ _
    (λ e g. item_refused c.args.types.now c.canonical_function.new.types c.args.state.now f (one_step f refl) c.args.offset e c.canonical_function.ensures.keeps.arena (λ outer p. (g outer p).1))
    c.canonical_function.ensures.err
