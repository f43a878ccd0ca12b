use Rattle.std.proofs.Common.{length, refl, sym, ◌∙◌, ap, subst, arith, inr}
use Rattle.std.specs.Vec.Iter.{into_iter_items}
use Rattle.std.proofs.lemmas.List.{nil_from_length}
use Rattle.std.proofs.lemmas.Result.{err_from_is_err_and}
use Rattle.wcv_core.proofs.Closing.{caused_same}
use Rattle.wcv_lower.specs.Checks.{is_none}
use Rattle.wcv_instances.specs.CoreInstances.{IsArg, arg_checks}
use Rattle.wcv_instances.proofs.Looked.{Looked, looked_none, looked_next, looked_caused, looked_all}
use Rattle.wcv_instances.proofs.core_instances.find_args.Goals as goal

pub loop-arg-init : goal.loop-arg-init
loop-arg-init c = record {
  looked = subst (λ ys. Looked (IsArg c.args.state.now.spaces) (arg_checks c.args.state.now.spaces) c.args.args.items (into_iter_items c.into_iter-arg-iterator.result) ys) (sym c.in_ok-found.ensures.items)
      (looked_none (IsArg c.args.state.now.spaces) (arg_checks c.args.state.now.spaces) c.args.args.items (into_iter_items c.into_iter-arg-iterator.result) (sym c.into_iter-arg-iterator.ensures.into_iter_gives.0));
  left = search;
}

pub returns-in_err-id-clause-err : goal.returns-in_err-id-clause-err
returns-in_err-id-clause-err c =
    let p = err_from_is_err_and c.from_residual-in_err-id.result c.from_residual-in_err-id.ensures.1 in
    let w = subst (λ xs. Looked (IsArg c.args.state.now.spaces) (arg_checks c.args.state.now.spaces) c.args.args.items xs c.loop-arg.found.items) c.in-Some.ensures.steps.0 c.loop-arg.invariant.looked in
    rw p.1 (caused_same _ c.args.offset c.in_err-id.field-0.0 p.0 p.2.0 p.2.1
    (looked_caused (IsArg c.args.state.now.spaces) (arg_checks c.args.state.now.spaces) c.args.args.items (into_iter_items c.next.new.self) c.loop-arg.found.items c.in-Some.arg c.args.offset c.in_err-id.field-0.0 w (inr c.in_err-id.ensures.err)))

pub loop-arg-preserved : goal.loop-arg-preserved
loop-arg-preserved c =
    let w = subst (λ xs. Looked (IsArg c.args.state.now.spaces) (arg_checks c.args.state.now.spaces) c.args.args.items xs c.loop-arg.found.items) c.in-Some.ensures.steps.0 c.loop-arg.invariant.looked in
    record {
      looked = subst (λ ys. Looked (IsArg c.args.state.now.spaces) (arg_checks c.args.state.now.spaces) c.args.args.items (into_iter_items c.next.new.self) ys) (sym c.in_ok-push.ensures.items)
          (looked_next (IsArg c.args.state.now.spaces) (arg_checks c.args.state.now.spaces) c.args.args.items (into_iter_items c.next.new.self) c.loop-arg.found.items c.in-Some.arg (c.in-Some.arg.name, c.in_ok-id.id) w (refl, c.in_ok-id.ensures.ok) (ap is_none c.in_ok-id.ensures.ok, tt));
      left =
          let gone = c.in-Some.ensures.steps.1 in
          let short = ap length c.in-Some.ensures.steps.0 in
          let before = c.loop-arg.invariant.left in
          omega arith;
    }

pub returns-clause-ok : goal.returns-clause-ok
returns-clause-ok c =
    let none = nil_from_length (into_iter_items c.loop-arg.arg-iterator) (sym c.loop-arg.invariant.left ∙ c.in-None.ensures.steps.0) in
    (looked_all (IsArg c.args.state.now.spaces) (arg_checks c.args.state.now.spaces) c.args.args.items c.loop-arg.found.items (subst (λ xs. Looked (IsArg c.args.state.now.spaces) (arg_checks c.args.state.now.spaces) c.args.args.items xs c.loop-arg.found.items) none c.loop-arg.invariant.looked)).0

pub returns-clause-free : goal.returns-clause-free
returns-clause-free c =
    let none = nil_from_length (into_iter_items c.loop-arg.arg-iterator) (sym c.loop-arg.invariant.left ∙ c.in-None.ensures.steps.0) in
    (looked_all (IsArg c.args.state.now.spaces) (arg_checks c.args.state.now.spaces) c.args.args.items c.loop-arg.found.items (subst (λ xs. Looked (IsArg c.args.state.now.spaces) (arg_checks c.args.state.now.spaces) c.args.args.items xs c.loop-arg.found.items) none c.loop-arg.invariant.looked)).1
