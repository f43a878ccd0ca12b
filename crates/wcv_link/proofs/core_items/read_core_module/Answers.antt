use Rattle.std.proofs.Common.{List, map, refl, subst}
use Rattle.std.proofs.lemmas.Result.{err_from_is_err_and, on_ok_weaker, IfErr-weaker}
use Rattle.wcv_core.proofs.Closing.{caused_same}
use Rattle.wcv_syntax.specs.Model.{Form, core_module_item}
use Rattle.wcv_syntax.specs.View.{code_decl_view}
use Rattle.wcv_syntax.specs.declared.core_section.ModuleDecl.{ModuleDecl}
use Rattle.wcv_types.proofs.Grown.{extends_refl}
use Rattle.wcv_lower.specs.Checks.{IsFree}
use Rattle.wcv_lower.specs.CoreItems.{core_module_left}
use Rattle.wcv_spaces.specs.Contents.{context_of}
use Rattle.wcv_spaces.specs.Promises.{MemoryOrCausedBy}
use Rattle.wcv_spaces.proofs.Keeping.{keeps_grown}
use Rattle.wcv_link.proofs.Steps.{one_step, item_taken, item_refused, bare_refused}
use Rattle.wcv_link.proofs.core_items.read_core_module.Goals as goal

pub returns-in_err-check_core_module_limits-clause-err : goal.returns-in_err-check_core_module_limits-clause-err
returns-in_err-check_core_module_limits-clause-err c =
    let p = err_from_is_err_and c.from_residual.result c.from_residual.ensures.1 in
    let f : Form = core_module_item (map code_decl_view c.args.decls.items) in
    rw p.1
    (bare_refused c.args.types.now c.args.state.now f c.args.offset p.0 (one_step f refl)
    (subst (λ (ds : List ModuleDecl). MemoryOrCausedBy (core_module_left (context_of c.args.types.now c.args.state.now) (map code_decl_view ds)) c.args.offset p.0) c.deref.ensures.value
    (caused_same (core_module_left (context_of c.args.types.now c.args.state.now) (map code_decl_view c.deref.result.now)) c.args.offset c.in_err-check_core_module_limits.field-0.0 p.0 p.2.0 p.2.1 c.in_err-check_core_module_limits.ensures.err)))

pub returns-in_err-check_core_module_limits-clause-keeps : goal.returns-in_err-check_core_module_limits-clause-keeps
returns-in_err-check_core_module_limits-clause-keeps c = keeps_grown c.args.types.now c.args.types.now c.args.state.now (extends_refl c.args.types.now) c.requires.stands

pub returns-clause-ok : goal.returns-clause-ok
returns-clause-ok c =
    let f : Form = core_module_item (map code_decl_view c.args.decls.items) in
    on_ok_weaker c.add_core_module_to.result
    (λ g. item_taken c.args.types.now c.add_core_module_to.new.types c.args.state.now c.add_core_module_to.new.state f (one_step f refl)
    (subst (λ (ds : List ModuleDecl). IsFree (core_module_left (context_of c.args.types.now c.args.state.now) (map code_decl_view ds))) c.deref.ensures.value c.in_ok-check_core_module_limits.ensures.ok)
    g c.add_core_module_to.ensures.keeps)
    c.add_core_module_to.ensures.ok

pub returns-clause-err : goal.returns-clause-err
returns-clause-err c =
    let f : Form = core_module_item (map code_decl_view c.args.decls.items) in
    IfErr-weaker c.add_core_module_to.result _ _
    (λ e g. item_refused c.args.types.now c.add_core_module_to.new.types c.args.state.now f (one_step f refl) c.args.offset e c.add_core_module_to.ensures.keeps.arena (λ outer p. (g outer p).1))
    c.add_core_module_to.ensures.err
