use Rattle.std.proofs.Common.{length, refl, sym, ap, subst, arith}
use Rattle.std.specs.Vec.Iter.{into_iter_items}
use Rattle.std.proofs.lemmas.Result.{err_from_is_err_and}
use Rattle.wcv_spaces.specs.Contents.{context_of}
use Rattle.wcv_decls.specs.Resolved.{written_case, case_part}
use Rattle.wcv_decls.proofs.Looking.{Looked, looked_next, looked_caused}
use Rattle.wcv_decls.proofs.lists.resolve_cases.Goals as goal

pub returns-in_err-ty-clause-err : goal.returns-in_err-ty-clause-err
returns-in_err-ty-clause-err c =
    let p = err_from_is_err_and c.from_residual-in_err-ty.result c.from_residual-in_err-ty.ensures.1 in
    let w = subst (λ xs. Looked c.args.types.now (context_of c.args.types.now c.args.state.now) c.args.state.now.features written_case case_part c.args.cases.items xs c.loop-case.resolved.items) c.in-Some.ensures.steps.0 c.loop-case.invariant.looked in
    rw (p.1, p.2) (looked_caused c.args.types.now (context_of c.args.types.now c.args.state.now) c.args.state.now.features written_case case_part c.args.cases.items (into_iter_items c.next.new.self) c.loop-case.resolved.items c.in-Some.case c.args.offset c.in_err-ty.field-0.0 w c.in_err-ty.ensures.err)

pub loop-case-preserved : goal.loop-case-preserved
loop-case-preserved c =
    let w = subst (λ xs. Looked c.args.types.now (context_of c.args.types.now c.args.state.now) c.args.state.now.features written_case case_part c.args.cases.items xs c.loop-case.resolved.items) c.in-Some.ensures.steps.0 c.loop-case.invariant.looked in
    record {
      looked = subst (λ ys. Looked c.args.types.now (context_of c.args.types.now c.args.state.now) c.args.state.now.features written_case case_part c.args.cases.items (into_iter_items c.next.new.self) ys) (sym c.in_ok-push.ensures.items)
          (looked_next c.args.types.now (context_of c.args.types.now c.args.state.now) c.args.state.now.features written_case case_part c.args.cases.items (into_iter_items c.next.new.self) c.loop-case.resolved.items c.in-Some.case (c.in-Some.case.name, c.in_ok-ty.ty) w refl c.in_ok-ty.ensures.ok c.in_ok-ty.ensures.free);
      left =
          let gone = c.in-Some.ensures.steps.1 in
          let short = ap length c.in-Some.ensures.steps.0 in
          let before = c.loop-case.invariant.left in
          omega arith;
    }
