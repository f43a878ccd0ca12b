use Rattle.std.proofs.Common.{List, IfErr, subst, sym}
use Rattle.wcv_syntax.specs.View.{canon_view}
use Rattle.wcv_syntax.specs.declared.canonical.CanonicalFunction.{CanonicalFunction}
use Rattle.wcv_lower.specs.Canons.{canon_checks}
use Rattle.wcv_lower.specs.Trees.{Tree_context}
use Rattle.wcv_spaces.specs.Contents.{stack_of}
use Rattle.wcv_spaces.specs.Promises.{MemoryOrCausedBy}
use Rattle.wcv_canon.proofs.functions.join_canonical_function.Goals as goal

pub returns-in-Lift-clause-err : goal.returns-in-Lift-clause-err
returns-in-Lift-clause-err c =
    subst (λ (f : CanonicalFunction). IfErr c.add_lifted.result (λ e. (outer : List Tree_context) → MemoryOrCausedBy (canon_checks c.args.state.now.features (stack_of c.args.types.now c.args.state.now outer) (canon_view f)) c.args.offset e)) (sym c.in-Lift.is) c.add_lifted.ensures.err
