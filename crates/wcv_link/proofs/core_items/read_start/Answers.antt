use Rattle.std.proofs.Common.{◌≡◌, ℕ, List, length, refl, ◌∙◌, subst}
use Rattle.std.proofs.lemmas.Result.{err_from_is_err_and, on_ok_weaker, IfErr-weaker}
use Rattle.wcv_core.proofs.Closing.{caused_same}
use Rattle.wcv_syntax.specs.Model.{Form, start_item}
use Rattle.wcv_types.proofs.Grown.{extends_refl}
use Rattle.wcv_core.specs.Limits.{max_list}
use Rattle.wcv_core.specs.Names.{Place}
use Rattle.wcv_lower.specs.Checks.{IsFree, too_many}
use Rattle.wcv_lower.specs.Start.{start_left}
use Rattle.wcv_lower.specs.Trees.{Tree_context}
use Rattle.wcv_spaces.specs.Promises.{MemoryOrCausedBy, Grew, CausedAt}
use Rattle.wcv_spaces.proofs.Keeping.{keeps_grown}
use Rattle.wcv_link.proofs.Steps.{one_step, item_taken, item_refused, bare_refused}
use Rattle.wcv_link.proofs.core_items.read_start.Goals as goal

pub returns-in_err-check_start_limit-clause-err : goal.returns-in_err-check_start_limit-clause-err
returns-in_err-check_start_limit-clause-err c =
    let p = err_from_is_err_and c.from_residual.result c.from_residual.ensures.1 in
    let f : Form = start_item c.args.func_index c.args.args.items c.args.results in
    let n : c.len.result ≡ length c.args.args.items = c.len.ensures ∙ c.args.args.ok.0 in
    rw p.1
    (bare_refused c.args.types.now c.args.state.now f c.args.offset p.0 (one_step f refl)
    (caused_same (start_left c.args.args.items) c.args.offset c.in_err-check_start_limit.field-0.0 p.0 p.2.0 p.2.1 (subst (λ (k : ℕ). MemoryOrCausedBy (too_many max_list k) c.args.offset c.in_err-check_start_limit.field-0.0) n c.in_err-check_start_limit.ensures.err)))

pub returns-in_err-check_start_limit-clause-keeps : goal.returns-in_err-check_start_limit-clause-keeps
returns-in_err-check_start_limit-clause-keeps c = keeps_grown c.args.types.now c.args.types.now c.args.state.now (extends_refl c.args.types.now) c.requires.stands

pub returns-clause-ok : goal.returns-clause-ok
returns-clause-ok c =
    let f : Form = start_item c.args.func_index c.args.args.items c.args.results in
    let n : c.len.result ≡ length c.args.args.items = c.len.ensures ∙ c.args.args.ok.0 in
    on_ok_weaker c.add_start.result
    (λ g. item_taken c.args.types.now c.args.types.now c.args.state.now c.add_start.new.self f (one_step f refl) (subst (λ (k : ℕ). IsFree (too_many max_list k)) n c.in_ok-check_start_limit.ensures.ok)
    (subst (λ (xs : List ℕ). (outer : List Tree_context) (p : Place) → Grew c.args.types.now c.args.types.now outer p c.args.state.now c.add_start.new.self (start_item c.args.func_index xs c.args.results)) c.as_slice.ensures.value g)
    c.add_start.ensures.keeps)
    c.add_start.ensures.ok

pub returns-clause-err : goal.returns-clause-err
returns-clause-err c =
    let f : Form = start_item c.args.func_index c.args.args.items c.args.results in
    IfErr-weaker c.add_start.result _ _
    (λ e g. item_refused c.args.types.now c.args.types.now c.args.state.now f (one_step f refl) c.args.offset e c.add_start.ensures.keeps.arena (λ outer p. subst (λ (xs : List ℕ). CausedAt c.args.types.now c.args.types.now outer p c.args.state.now (start_item c.args.func_index xs c.args.results) c.args.offset e) c.as_slice.ensures.value (g outer p).1))
    c.add_start.ensures.err
