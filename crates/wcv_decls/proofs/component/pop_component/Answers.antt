use Rattle.std.proofs.Common.{◌≡◌, ◌∙◌, List, subst}
use Rattle.std.proofs.lemmas.Result.{IfOk-weaker, IfErr-weaker}
use Rattle.wcv_core.specs.Refusal.{error_kind}
use Rattle.wcv_core.proofs.Closing.{caused_same}
use Rattle.wcv_lower.specs.Checks.{IsFree}
use Rattle.wcv_lower.specs.Ending.{end_checks, component_end_checks}
use Rattle.wcv_lower.specs.Marks.{unused_checks}
use Rattle.wcv_lower.specs.Trees.{Tree_context}
use Rattle.wcv_lower.proofs.Causes.{cause_left, cause_right}
use Rattle.wcv_spaces.specs.Contents.{Contents, context_of}
use Rattle.wcv_spaces.specs.Promises.{MemoryOrCausedBy}
use Rattle.wcv_spaces.proofs.Calls.{caused_more}
use Rattle.wcv_decls.specs.Declaring.{innermost, around, top_in}
use Rattle.wcv_decls.proofs.InnermostStates.{parted}
use Rattle.wcv_decls.proofs.component.pop_component.Goals as goal

pub returns-in-Ok-clause-used : goal.returns-in-Ok-clause-used
returns-in-Ok-clause-used c =
    let ss : List Contents = c.args.components.now.items in
    let here : c.innermost.result.now ≡ innermost ss = c.innermost.ensures (around ss) (innermost ss) (c.as_slice.ensures.value ∙ parted ss c.requires.some) in
    IfOk-weaker c.pop_type.result _ _ (λ ty f. subst (λ (s : Contents). IsFree (unused_checks (context_of c.args.types.now s))) here c.in-Ok.ensures.ok) c.pop_type.ensures.ok

pub returns-in-Ok-clause-err : goal.returns-in-Ok-clause-err
returns-in-Ok-clause-err c =
    let top : Tree_context = top_in c.args.types.now c.args.components.now.items in
    IfErr-weaker c.pop_type.result _ _ (λ e z. caused_more (end_checks top) (component_end_checks top) c.args.offset e (cause_right (unused_checks top) (end_checks top) (error_kind e)) z) c.pop_type.ensures.err

pub returns-in-Err-clause-err : goal.returns-in-Err-clause-err
returns-in-Err-clause-err c =
    let ss : List Contents = c.args.components.now.items in
    let a = c.args.types.now in
    let top : Tree_context = top_in a ss in
    let here : c.innermost.result.now ≡ innermost ss = c.innermost.ensures (around ss) (innermost ss) (c.as_slice.ensures.value ∙ parted ss c.requires.some) in
    let e = c.in-Err.refusal in
    let told : MemoryOrCausedBy (unused_checks top) c.args.offset e = subst (λ (s : Contents). MemoryOrCausedBy (unused_checks (context_of a s)) c.args.offset e) here c.in-Err.ensures.err in
    caused_more (unused_checks top) (component_end_checks top) c.args.offset c.from.result (cause_left (unused_checks top) (end_checks top) (error_kind c.from.result))
    (caused_same (unused_checks top) c.args.offset e c.from.result c.from.ensures.0 c.from.ensures.1 told)
