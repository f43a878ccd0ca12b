use Rattle.std.proofs.Common.{List, subst}
use Rattle.std.proofs.lemmas.Result.{err_from_is_err_and}
use Rattle.wcv_core.proofs.Closing.{caused_same}
use Rattle.wcv_lower.specs.Checks.{IsFree}
use Rattle.wcv_spaces.specs.Contents.{Contents}
use Rattle.wcv_spaces.specs.Promises.{MemoryOrCausedBy}
use Rattle.wcv_decls.specs.Declaring.{stack_in, component_room}
use Rattle.wcv_decls.proofs.component.open_component.Goals as goal

pub returns-in_err-check_component-clause-err : goal.returns-in_err-check_component-clause-err
returns-in_err-check_component-clause-err c =
    let a = c.args.types.now in
    let p = err_from_is_err_and c.from_residual.result c.from_residual.ensures.1 in
    rw p.1 (subst (λ (ss : List Contents). MemoryOrCausedBy (component_room (stack_in a ss) c.args.count) c.args.offset p.0) c.as_slice.ensures.value
    (caused_same (component_room (stack_in a c.as_slice.result.now) c.args.count) c.args.offset c.in_err-check_component.field-0.0 p.0 p.2.0 p.2.1 c.in_err-check_component.ensures.err))

pub returns-clause-free : goal.returns-clause-free
returns-clause-free c = subst (λ (ss : List Contents). IsFree (component_room (stack_in c.args.types.now ss) c.args.count)) c.as_slice.ensures.value c.in_ok-check_component.ensures.ok
