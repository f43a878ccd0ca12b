use Rattle.std.proofs.Common.{◌≡◌, ◌+◌, ◌++◌, List, length, ap, sym, subst}
use Rattle.std.specs.Prelude.{OnOk, IfErr}
use Rattle.std.proofs.lemmas.Result.{err_from_is_err_and, on_ok_weaker, IfErr-weaker}
use Rattle.wcv_core.specs.Refusal.{error_kind}
use Rattle.wcv_core.specs.Limits.{max_open}
use Rattle.wcv_lower.specs.Checks.{Checks, IsFree, no_type_room, too_many}
use Rattle.wcv_lower.specs.Context.{counts}
use Rattle.wcv_lower.specs.Declared.{full_stack}
use Rattle.wcv_lower.proofs.Causes.{cause_left, cause_right}
use Rattle.wcv_spaces.specs.Contents.{Contents, context_of}
use Rattle.wcv_spaces.specs.Promises.{MemoryOrCausedBy}
use Rattle.wcv_spaces.proofs.Calls.{caused_more}
use Rattle.wcv_decls.specs.Declaring.{innermost, around, stack_in, top_in}
use Rattle.wcv_decls.proofs.InnermostStates.{parted}
use Rattle.wcv_decls.proofs.Opening.{open_count}
use Rattle.wcv_decls.proofs.open.check_declared.Goals as goal

pub returns-in_err-check_open-clause-err : goal.returns-in_err-check_open-clause-err
returns-in_err-check_open-clause-err c =
    let ss : List Contents = c.args.components.now in
    let a = c.args.types.now in
    let full : Checks = full_stack (stack_in a ss) in
    let room : Checks = no_type_room c.args.check_limit (counts (top_in a ss)) in
    let same : too_many max_open (length ss + 1) ≡ full = ap (too_many max_open) (sym (open_count a ss c.requires.some)) in
    let p = err_from_is_err_and c.from_residual.result c.from_residual.ensures.1 in
    let e = c.in_err-check_open.field-0.0 in
    rw (p.1, p.2) (caused_more full (full ++ room) c.args.offset e (cause_left full room (error_kind e)) (subst (λ (cs : Checks). MemoryOrCausedBy cs c.args.offset e) same c.in_err-check_open.ensures.err))

pub returns-clause-full : goal.returns-clause-full
returns-clause-full c =
    let ss : List Contents = c.args.components.now in
    let a = c.args.types.now in
    let same : too_many max_open (length ss + 1) ≡ full_stack (stack_in a ss) = ap (too_many max_open) (sym (open_count a ss c.requires.some)) in
    on_ok_weaker c.check_types.result (λ z. subst IsFree same c.in_ok-check_open.ensures.ok) c.check_types.ensures.ok

pub returns-clause-room : goal.returns-clause-room
returns-clause-room c =
    let ss : List Contents = c.args.components.now in
    let here : c.innermost.result.now ≡ innermost ss = c.innermost.ensures (around ss) (innermost ss) (parted ss c.requires.some) in
    subst (λ (s : Contents). OnOk c.check_types.result (IsFree (no_type_room c.args.check_limit (counts (context_of c.args.types.now s))))) here c.check_types.ensures.ok

pub returns-clause-err : goal.returns-clause-err
returns-clause-err c =
    let ss : List Contents = c.args.components.now in
    let a = c.args.types.now in
    let full : Checks = full_stack (stack_in a ss) in
    let room : Checks = no_type_room c.args.check_limit (counts (top_in a ss)) in
    let here : c.innermost.result.now ≡ innermost ss = c.innermost.ensures (around ss) (innermost ss) (parted ss c.requires.some) in
    IfErr-weaker c.check_types.result _ _ (λ e z. caused_more room (full ++ room) c.args.offset e (cause_right full room (error_kind e)) z)
    (subst (λ (s : Contents). IfErr c.check_types.result (MemoryOrCausedBy (no_type_room c.args.check_limit (counts (context_of a s))) c.args.offset)) here c.check_types.ensures.err)
