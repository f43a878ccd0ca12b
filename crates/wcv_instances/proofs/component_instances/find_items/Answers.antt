use Rattle.std.proofs.Common.{length, refl, sym, ◌∙◌, ap, subst, arith}
use Rattle.std.specs.Vec.Iter.{into_iter_items}
use Rattle.std.proofs.lemmas.List.{nil_from_length}
use Rattle.std.proofs.lemmas.Result.{err_from_is_err_and}
use Rattle.wcv_core.proofs.Closing.{caused_same}
use Rattle.wcv_instances.specs.ComponentInstances.{IsListed, item_checks}
use Rattle.wcv_instances.proofs.Looked.{Looked, looked_none, looked_next, looked_caused, looked_all}
use Rattle.wcv_instances.proofs.component_instances.find_items.Goals as goal

pub loop-export-init : goal.loop-export-init
loop-export-init c = record {
  looked = subst (λ ys. Looked (IsListed c.args.state.now.spaces) (item_checks c.args.types.now c.args.state.now.features c.args.state.now.spaces) c.args.exports.items (into_iter_items c.into_iter-export-iterator.result) ys) (sym c.in_ok-found.ensures.items)
      (looked_none (IsListed c.args.state.now.spaces) (item_checks c.args.types.now c.args.state.now.features c.args.state.now.spaces) c.args.exports.items (into_iter_items c.into_iter-export-iterator.result) (sym c.into_iter-export-iterator.ensures.into_iter_gives.0));
  left = search;
}

pub returns-in_err-item-clause-err : goal.returns-in_err-item-clause-err
returns-in_err-item-clause-err c =
    let p = err_from_is_err_and c.from_residual-in_err-item.result c.from_residual-in_err-item.ensures.1 in
    let w = subst (λ xs. Looked (IsListed c.args.state.now.spaces) (item_checks c.args.types.now c.args.state.now.features c.args.state.now.spaces) c.args.exports.items xs c.loop-export.found.items) c.in-Some.ensures.steps.0 c.loop-export.invariant.looked in
    rw p.1 (caused_same _ c.args.offset c.in_err-item.field-0.0 p.0 p.2.0 p.2.1
    (looked_caused (IsListed c.args.state.now.spaces) (item_checks c.args.types.now c.args.state.now.features c.args.state.now.spaces) c.args.exports.items (into_iter_items c.next.new.self) c.loop-export.found.items c.in-Some.export c.args.offset c.in_err-item.field-0.0 w c.in_err-item.ensures.err))

pub loop-export-preserved : goal.loop-export-preserved
loop-export-preserved c =
    let w = subst (λ xs. Looked (IsListed c.args.state.now.spaces) (item_checks c.args.types.now c.args.state.now.features c.args.state.now.spaces) c.args.exports.items xs c.loop-export.found.items) c.in-Some.ensures.steps.0 c.loop-export.invariant.looked in
    record {
      looked = subst (λ ys. Looked (IsListed c.args.state.now.spaces) (item_checks c.args.types.now c.args.state.now.features c.args.state.now.spaces) c.args.exports.items (into_iter_items c.next.new.self) ys) (sym c.in_ok-push.ensures.items)
          (looked_next (IsListed c.args.state.now.spaces) (item_checks c.args.types.now c.args.state.now.features c.args.state.now.spaces) c.args.exports.items (into_iter_items c.next.new.self) c.loop-export.found.items c.in-Some.export (c.in-Some.export.name, c.in_ok-item.item) w (refl, c.in_ok-item.ensures.ok) c.in_ok-item.ensures.free);
      left =
          let gone = c.in-Some.ensures.steps.1 in
          let short = ap length c.in-Some.ensures.steps.0 in
          let before = c.loop-export.invariant.left in
          omega arith;
    }

pub returns-clause-ok : goal.returns-clause-ok
returns-clause-ok c =
    let none = nil_from_length (into_iter_items c.loop-export.export-iterator) (sym c.loop-export.invariant.left ∙ c.in-None.ensures.steps.0) in
    (looked_all (IsListed c.args.state.now.spaces) (item_checks c.args.types.now c.args.state.now.features c.args.state.now.spaces) c.args.exports.items c.loop-export.found.items (subst (λ xs. Looked (IsListed c.args.state.now.spaces) (item_checks c.args.types.now c.args.state.now.features c.args.state.now.spaces) c.args.exports.items xs c.loop-export.found.items) none c.loop-export.invariant.looked)).0

pub returns-clause-free : goal.returns-clause-free
returns-clause-free c =
    let none = nil_from_length (into_iter_items c.loop-export.export-iterator) (sym c.loop-export.invariant.left ∙ c.in-None.ensures.steps.0) in
    (looked_all (IsListed c.args.state.now.spaces) (item_checks c.args.types.now c.args.state.now.features c.args.state.now.spaces) c.args.exports.items c.loop-export.found.items (subst (λ xs. Looked (IsListed c.args.state.now.spaces) (item_checks c.args.types.now c.args.state.now.features c.args.state.now.spaces) c.args.exports.items xs c.loop-export.found.items) none c.loop-export.invariant.looked)).1
