use Rattle.std.proofs.Common.{◌≡◌, ◌+◌, ◌++◌, List, length, ap, sym, subst}
use Rattle.std.proofs.lemmas.Result.{err_from_is_err_and, on_ok_weaker, IfErr-weaker}
use Rattle.wcv_core.specs.Refusal.{error_kind}
use Rattle.wcv_core.specs.Limits.{max_list, max_open}
use Rattle.wcv_types.specs.Tree.{is_component}
use Rattle.wcv_lower.specs.Checks.{Checks, IsFree, no_room, too_many}
use Rattle.wcv_lower.specs.Context.{counts}
use Rattle.wcv_lower.specs.Declared.{full_stack}
use Rattle.wcv_lower.proofs.Causes.{cause_left, cause_right, free_both}
use Rattle.wcv_spaces.specs.Contents.{Contents, context_of}
use Rattle.wcv_spaces.specs.Promises.{MemoryOrCausedBy}
use Rattle.wcv_spaces.proofs.Calls.{caused_more}
use Rattle.wcv_decls.specs.Declaring.{innermost, around, stack_in, top_in}
use Rattle.wcv_decls.proofs.InnermostStates.{parted}
use Rattle.wcv_decls.proofs.Opening.{open_count}
use Rattle.wcv_decls.proofs.component.check_component.Goals as goal

pub returns-in_err-check_open-clause-err : goal.returns-in_err-check_open-clause-err
returns-in_err-check_open-clause-err c =
    let ss : List Contents = c.args.components.now in
    let a = c.args.types.now in
    let full : Checks = full_stack (stack_in a ss) in
    let rest : Checks = no_room (counts (top_in a ss)) is_component ++ too_many max_list c.args.count in
    let same : too_many max_open (length ss + 1) ≡ full = ap (too_many max_open) (sym (open_count a ss c.requires.some)) in
    let p = err_from_is_err_and c.from_residual.result c.from_residual.ensures.1 in
    let e = c.in_err-check_open.field-0.0 in
    rw (p.1, p.2) (caused_more full (full ++ rest) c.args.offset e (cause_left full rest (error_kind e)) (subst (λ (cs : Checks). MemoryOrCausedBy cs c.args.offset e) same c.in_err-check_open.ensures.err))

pub returns-in_err-check_components-clause-err : goal.returns-in_err-check_components-clause-err
returns-in_err-check_components-clause-err c =
    let ss : List Contents = c.args.components.now in
    let a = c.args.types.now in
    let full : Checks = full_stack (stack_in a ss) in
    let room : Checks = no_room (counts (top_in a ss)) is_component in
    let many : Checks = too_many max_list c.args.count in
    let here : c.innermost.result.now ≡ innermost ss = c.innermost.ensures (around ss) (innermost ss) (parted ss c.requires.some) in
    let p = err_from_is_err_and c.from_residual-in_err-check_components.result c.from_residual-in_err-check_components.ensures.1 in
    let e = c.in_err-check_components.field-0.0 in
    rw (p.1, p.2) (caused_more room (full ++ (room ++ many)) c.args.offset e (λ z. cause_right full (room ++ many) (error_kind e) (cause_left room many (error_kind e) z))
    (subst (λ (s : Contents). MemoryOrCausedBy (no_room (counts (context_of a s)) is_component) c.args.offset e) here c.in_err-check_components.ensures.err))

pub returns-clause-ok : goal.returns-clause-ok
returns-clause-ok c =
    let ss : List Contents = c.args.components.now in
    let a = c.args.types.now in
    let full : Checks = full_stack (stack_in a ss) in
    let room : Checks = no_room (counts (top_in a ss)) is_component in
    let many : Checks = too_many max_list c.args.count in
    let same : too_many max_open (length ss + 1) ≡ full = ap (too_many max_open) (sym (open_count a ss c.requires.some)) in
    let here : c.innermost.result.now ≡ innermost ss = c.innermost.ensures (around ss) (innermost ss) (parted ss c.requires.some) in
    let left : IsFree full = subst IsFree same c.in_ok-check_open.ensures.ok in
    let there : IsFree room = subst (λ (s : Contents). IsFree (no_room (counts (context_of a s)) is_component)) here c.in_ok-check_components.ensures.ok in
    on_ok_weaker c.check_count.result (λ (z : IsFree many). free_both full (room ++ many) left (free_both room many there z)) c.check_count.ensures.ok

pub returns-clause-err : goal.returns-clause-err
returns-clause-err c =
    let ss : List Contents = c.args.components.now in
    let a = c.args.types.now in
    let full : Checks = full_stack (stack_in a ss) in
    let room : Checks = no_room (counts (top_in a ss)) is_component in
    let many : Checks = too_many max_list c.args.count in
    IfErr-weaker c.check_count.result _ _ (λ e z. caused_more many (full ++ (room ++ many)) c.args.offset e (λ y. cause_right full (room ++ many) (error_kind e) (cause_right room many (error_kind e) y)) z) c.check_count.ensures.err
