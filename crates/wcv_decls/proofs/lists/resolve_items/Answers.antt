use Rattle.std.proofs.Common.{length, refl, sym, ap, subst, arith}
use Rattle.std.specs.Vec.Iter.{into_iter_items}
use Rattle.std.proofs.lemmas.Result.{err_from_is_err_and}
use Rattle.wcv_spaces.specs.Contents.{context_of}
use Rattle.wcv_decls.specs.Resolved.{written_item, item_part}
use Rattle.wcv_decls.proofs.Looking.{Looked, looked_next, looked_caused}
use Rattle.wcv_decls.proofs.lists.resolve_items.Goals as goal

pub returns-in_err-resolve-clause-err : goal.returns-in_err-resolve-clause-err
returns-in_err-resolve-clause-err c =
    let p = err_from_is_err_and c.from_residual-in_err-resolve.result c.from_residual-in_err-resolve.ensures.1 in
    let w = subst (λ xs. Looked c.args.types.now (context_of c.args.types.now c.args.state.now) c.args.state.now.features written_item item_part c.args.items.items xs c.loop-item.resolved.items) c.in-Some.ensures.steps.0 c.loop-item.invariant.looked in
    rw (p.1, p.2) (looked_caused c.args.types.now (context_of c.args.types.now c.args.state.now) c.args.state.now.features written_item item_part c.args.items.items (into_iter_items c.next.new.self) c.loop-item.resolved.items c.in-Some.item c.args.offset c.in_err-resolve.field-0.0 w c.in_err-resolve.ensures.err)

pub loop-item-preserved : goal.loop-item-preserved
loop-item-preserved c =
    let w = subst (λ xs. Looked c.args.types.now (context_of c.args.types.now c.args.state.now) c.args.state.now.features written_item item_part c.args.items.items xs c.loop-item.resolved.items) c.in-Some.ensures.steps.0 c.loop-item.invariant.looked in
    record {
      looked = subst (λ ys. Looked c.args.types.now (context_of c.args.types.now c.args.state.now) c.args.state.now.features written_item item_part c.args.items.items (into_iter_items c.next.new.self) ys) (sym c.in_ok-push.ensures.items)
          (looked_next c.args.types.now (context_of c.args.types.now c.args.state.now) c.args.state.now.features written_item item_part c.args.items.items (into_iter_items c.next.new.self) c.loop-item.resolved.items c.in-Some.item c.in_ok-resolve.field-0 w refl c.in_ok-resolve.ensures.ok c.in_ok-resolve.ensures.free);
      left =
          let gone = c.in-Some.ensures.steps.1 in
          let short = ap length c.in-Some.ensures.steps.0 in
          let before = c.loop-item.invariant.left in
          omega arith;
    }
