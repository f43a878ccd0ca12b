use Rattle.std.proofs.Common.{ap}
use Rattle.wcv_core.proofs.Closing.{caused_same}
use Rattle.wcv_syntax.specs.View.{canon_view}
use Rattle.wcv_lower.specs.Canons.{canon_checks}
use Rattle.wcv_spaces.specs.Contents.{Contents, stack_of}
use Rattle.wcv_canon.proofs.Refusals.{canon_refused, marked_keeps}
use Rattle.wcv_canon.proofs.functions.add_canonical_function.Goals as goal

pub returns-clause-err : goal.returns-clause-err
returns-clause-err c =
    canon_refused c.args.types.now c.join_canonical_function.new.types c.args.state.now c.mark_spent.new.self (canon_view c.args.func) c.args.offset c.named.result (ap (λ (z : Contents). z.spent) c.mark_spent.ensures)
    (λ outer. caused_same (canon_checks c.args.state.now.features (stack_of c.args.types.now c.args.state.now outer) (canon_view c.args.func)) c.args.offset c.in-Err.error c.named.result c.named.ensures.kind c.named.ensures.offset (c.in-Err.ensures.err outer))

pub returns-clause-keeps : goal.returns-clause-keeps
returns-clause-keeps c =
    marked_keeps c.args.types.now c.join_canonical_function.new.types c.args.state.now c.join_canonical_function.new.state c.mark_spent.new.self c.join_canonical_function.ensures.keeps c.mark_spent.ensures
