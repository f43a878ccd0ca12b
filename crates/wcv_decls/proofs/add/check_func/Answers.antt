use Rattle.std.proofs.Common.{List, [], cond, subst}
use Rattle.std.proofs.lemmas.Result.{on_ok_weaker, IfErr-weaker}
use Rattle.wcv_core.specs.Refusal.{error_kind}
use Rattle.wcv_syntax.specs.View.{func_view}
use Rattle.wcv_syntax.specs.declared.component_type.ComponentValType.{ComponentValType}
use Rattle.wcv_types.specs.Tree.{Text}
use Rattle.wcv_lower.specs.Checks.{IsFree, label_checks}
use Rattle.wcv_lower.specs.Types.{func_own_checks, param_names}
use Rattle.wcv_core.specs.Features.{cm_async}
use Rattle.wcv_lower.specs.Values.{lacks}
use Rattle.wcv_lower.proofs.Causes.{cause_right, free_both}
use Rattle.wcv_spaces.specs.Promises.{MemoryOrCausedBy}
use Rattle.wcv_spaces.proofs.Calls.{caused_more}
use Rattle.wcv_decls.proofs.add.check_func.Goals as goal

pub returns-clause-ok : goal.returns-clause-ok
returns-clause-ok c =
    on_ok_weaker c.check_labels.result
    (λ l. free_both (cond c.args.func.now.async_ (lacks c.args.features.now cm_async) []) (label_checks (param_names c.args.func.now.params.items)) c.in_ok-check_mark.ensures.ok
    (subst (λ (xs : List (Text × ComponentValType)). IsFree (label_checks (param_names xs))) c.deref.ensures.value l))
    c.check_labels.ensures.ok

pub returns-clause-err : goal.returns-clause-err
returns-clause-err c =
    IfErr-weaker c.check_labels.result _ _
    (λ e l. caused_more (label_checks (param_names c.args.func.now.params.items)) (func_own_checks c.args.features.now (func_view c.args.func.now)) c.args.offset e
    (cause_right (cond c.args.func.now.async_ (lacks c.args.features.now cm_async) []) (label_checks (param_names c.args.func.now.params.items)) (error_kind e))
    (subst (λ (xs : List (Text × ComponentValType)). MemoryOrCausedBy (label_checks (param_names xs)) c.args.offset e) c.deref.ensures.value l))
    c.check_labels.ensures.err
