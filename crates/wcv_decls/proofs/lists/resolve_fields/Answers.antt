use Rattle.std.proofs.Common.{length, refl, sym, ap, subst, arith}
use Rattle.std.specs.Vec.Iter.{into_iter_items}
use Rattle.std.proofs.lemmas.Result.{err_from_is_err_and}
use Rattle.wcv_spaces.specs.Contents.{context_of}
use Rattle.wcv_decls.specs.Resolved.{written_field, field_part}
use Rattle.wcv_decls.proofs.Looking.{Looked, looked_next, looked_caused}
use Rattle.wcv_decls.proofs.lists.resolve_fields.Goals as goal

pub returns-in_err-ty-clause-err : goal.returns-in_err-ty-clause-err
returns-in_err-ty-clause-err c =
    let p = err_from_is_err_and c.from_residual-in_err-ty.result c.from_residual-in_err-ty.ensures.1 in
    let w = subst (λ xs. Looked c.args.types.now (context_of c.args.types.now c.args.state.now) c.args.state.now.features written_field field_part c.args.fields.items xs c.loop-field.resolved.items) c.in-Some.ensures.steps.0 c.loop-field.invariant.looked in
    rw (p.1, p.2) (looked_caused c.args.types.now (context_of c.args.types.now c.args.state.now) c.args.state.now.features written_field field_part c.args.fields.items (into_iter_items c.next.new.self) c.loop-field.resolved.items c.in-Some.field c.args.offset c.in_err-ty.field-0.0 w c.in_err-ty.ensures.err)

pub loop-field-preserved : goal.loop-field-preserved
loop-field-preserved c =
    let w = subst (λ xs. Looked c.args.types.now (context_of c.args.types.now c.args.state.now) c.args.state.now.features written_field field_part c.args.fields.items xs c.loop-field.resolved.items) c.in-Some.ensures.steps.0 c.loop-field.invariant.looked in
    record {
      looked = subst (λ ys. Looked c.args.types.now (context_of c.args.types.now c.args.state.now) c.args.state.now.features written_field field_part c.args.fields.items (into_iter_items c.next.new.self) ys) (sym c.in_ok-push.ensures.items)
          (looked_next c.args.types.now (context_of c.args.types.now c.args.state.now) c.args.state.now.features written_field field_part c.args.fields.items (into_iter_items c.next.new.self) c.loop-field.resolved.items c.in-Some.field (c.in-Some.field.0, c.in_ok-ty.ty) w refl c.in_ok-ty.ensures.ok c.in_ok-ty.ensures.free);
      left =
          let gone = c.in-Some.ensures.steps.1 in
          let short = ap length c.in-Some.ensures.steps.0 in
          let before = c.loop-field.invariant.left in
          omega arith;
    }
