use Rattle.std.proofs.Common.{◌≡◌, ◌∙◌, ℕ, List, length, OnOk, IfErr, ap, subst, sym}
use Rattle.std.proofs.lemmas.Result.{on_ok_weaker, IfErr-weaker}
use Rattle.wcv_core.specs.Checks.{Checks, all_checks, too_many}
use Rattle.wcv_core.specs.Limits.{max_list}
use Rattle.wcv_core.specs.Refusal.{error_kind}
use Rattle.wcv_core.proofs.Causes.{cause_right, free_both}
use Rattle.wcv_syntax.specs.Model.{Instance_form, bag}
use Rattle.wcv_syntax.specs.View.{instance_view}
use Rattle.wcv_syntax.specs.declared.name.ComponentExport.{ComponentExport}
use Rattle.wcv_lower.specs.Checks.{IsFree, each_too_long, texts_of}
use Rattle.wcv_lower.specs.Entries.{extern_name}
use Rattle.wcv_lower.specs.Instances.{instance_left}
use Rattle.wcv_spaces.specs.Promises.{MemoryOrCausedBy}
use Rattle.wcv_spaces.proofs.Calls.{caused_more}
use Rattle.wcv_decls.proofs.instance_limits.check_component_instance_limits.Goals as goal

abbrev long : ComponentExport → Checks
long e = each_too_long (texts_of (extern_name e.name))

pub returns-in_ok-check_count-in-FromExports-clause-ok : goal.returns-in_ok-check_count-in-FromExports-clause-ok
returns-in_ok-check_count-in-FromExports-clause-ok c =
    let es : List ComponentExport = c.in-FromExports.exports.items in
    let is : instance_view c.args.instance.now ≡ bag es = ap instance_view c.in-FromExports.is in
    subst (λ (i : Instance_form). OnOk c.check_item_names.result (IsFree (instance_left i))) (sym is)
    (on_ok_weaker c.check_item_names.result
    (λ f. free_both (too_many max_list (length es)) (all_checks long es)
    (subst (λ (n : ℕ). IsFree (too_many max_list n)) (c.len-in-FromExports.ensures ∙ c.in-FromExports.exports.ok.0) c.in_ok-check_count-in-FromExports.ensures.ok)
    (subst (λ (xs : List ComponentExport). IsFree (all_checks long xs)) c.as_slice-in-FromExports.ensures.value f))
    c.check_item_names.ensures.ok)

pub returns-in_ok-check_count-in-FromExports-clause-err : goal.returns-in_ok-check_count-in-FromExports-clause-err
returns-in_ok-check_count-in-FromExports-clause-err c =
    let es : List ComponentExport = c.in-FromExports.exports.items in
    let is : instance_view c.args.instance.now ≡ bag es = ap instance_view c.in-FromExports.is in
    subst (λ (i : Instance_form). IfErr c.check_item_names.result (MemoryOrCausedBy (instance_left i) c.args.offset)) (sym is)
    (IfErr-weaker c.check_item_names.result _ _
    (λ e f. caused_more (all_checks long es) (instance_left (bag es)) c.args.offset e (cause_right (too_many max_list (length es)) (all_checks long es) (error_kind e))
    (subst (λ (xs : List ComponentExport). MemoryOrCausedBy (all_checks long xs) c.args.offset e) c.as_slice-in-FromExports.ensures.value f))
    c.check_item_names.ensures.err)
