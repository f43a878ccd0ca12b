use Rattle.std.proofs.Common.{ap, inl, refl}
use Rattle.std.proofs.lemmas.Result.{err_from_is_err_and}
use Rattle.wcv_spaces.specs.Contents.{Contents, spent}
use Rattle.wcv_state.proofs.Finishing.{finish_is, names_apart}
use Rattle.wcv_state.proofs.state.ComponentState.finish.Goals as goal

pub returns-in-Err-clause-err : goal.returns-in-Err-clause-err
returns-in-Err-clause-err c = (refl, c.in-Err.ensures.err)

pub returns-in-Err-clause-left : goal.returns-in-Err-clause-left
returns-in-Err-clause-left c = ap spent c.self.view_is

pub returns-in_err-ty-clause-err : goal.returns-in_err-ty-clause-err
returns-in_err-ty-clause-err c =
    let p = err_from_is_err_and c.from_residual.result c.from_residual.ensures.1 in
    rw p.1 (ap (λ (z : Contents). z.spent) c.in_err-ty.ensures.left, inl p.2)

pub returns-clause-ok : goal.returns-clause-ok
returns-clause-ok c = finish_is c.args.types.now c.args.self.now c.in_ok-ty.ty c.in-Ok.paths c.requires.stands (names_apart c.self.inside c.args.self.now c.self.view_is c.self.invariant c.requires.live) c.in-Ok.ensures.ok c.in_ok-ty.ensures.ok
