use Rattle.std.proofs.Common.{List, [], refl, subst, sym, true}
use Rattle.std.proofs.lemmas.Result.{err_from_is_err_and}
use Rattle.wcv_syntax.specs.declared.canonical.CanonicalOption.{CanonicalOption}
use Rattle.wcv_lower.specs.Canons.{canon_checks}
use Rattle.wcv_lower.specs.Checks.{IsFree}
use Rattle.wcv_syntax.specs.Model.{lift}
use Rattle.wcv_spaces.specs.Contents.{stack_of}
use Rattle.wcv_spaces.specs.Promises.{Keeps, MemoryOrCausedBy}
use Rattle.wcv_spaces.proofs.Keeping.{keeps_grown, keeps_grown_marked}
use Rattle.wcv_canon.proofs.LiftChecks.{lift_grew, lift_keeps}
use Rattle.wcv_canon.proofs.functions.add_lifted.Goals as goal

pub returns-in_err-id-clause-keeps : goal.returns-in_err-id-clause-keeps
returns-in_err-id-clause-keeps c = keeps_grown c.args.types.now c.find_lift.new.types c.args.state.now c.find_lift.ensures.grown c.requires.open.stands

pub returns-in_err-push_func-clause-keeps : goal.returns-in_err-push_func-clause-keeps
returns-in_err-push_func-clause-keeps c =
    subst (Keeps c.args.types.now c.find_lift.new.types c.args.state.now) (sym c.in_err-push_func.ensures.err)
    (keeps_grown_marked c.args.types.now c.find_lift.new.types c.args.state.now c.args.state.now true c.find_lift.ensures.grown refl c.requires.open.stands)

pub returns-clause-ok : goal.returns-clause-ok
returns-clause-ok c = λ outer p.
    lift_grew c.args.types.now c.args.state.now c.requires.open.stands outer c.args.core_index c.args.type_index c.args.options.now.items c.in_ok-id.id c.in_ok-id.ensures.ok c.find_lift.new.types c.push_func.new.self c.in_ok-id.ensures.same c.in_ok-push_func.ensures.ok c.requires.open.live
    (subst (λ (os : List CanonicalOption). IsFree (canon_checks c.args.state.now.features (stack_of c.args.types.now c.args.state.now outer) (lift c.args.core_index c.args.type_index os))) c.as_slice.ensures.value (c.in_ok-id.ensures.free outer)) p

pub returns-clause-keeps : goal.returns-clause-keeps
returns-clause-keeps c =
    lift_keeps c.args.types.now c.args.state.now c.requires.open.stands [] c.args.core_index c.args.type_index c.args.options.now.items c.in_ok-id.id c.in_ok-id.ensures.ok c.find_lift.new.types c.push_func.new.self c.in_ok-id.ensures.same c.in_ok-push_func.ensures.ok

pub returns-in_err-id-clause-err : goal.returns-in_err-id-clause-err
returns-in_err-id-clause-err c =
    let q = err_from_is_err_and c.from_residual.result c.from_residual.ensures.1 in
    rw (q.1, q.2) (λ outer.
    subst (λ (os : List CanonicalOption). MemoryOrCausedBy (canon_checks c.args.state.now.features (stack_of c.args.types.now c.args.state.now outer) (lift c.args.core_index c.args.type_index os)) c.args.offset c.in_err-id.field-0.0) c.as_slice.ensures.value (c.in_err-id.ensures.err outer))
