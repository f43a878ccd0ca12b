use Rattle.std.proofs.Common.{◌≡◌, subst, sym, refl, true}
use Rattle.std.proofs.lemmas.Result.{err_from_is_err_and}
use Rattle.wcv_types.specs.declared.arena.Node.TheVariants as node
use Rattle.wcv_lower.specs.Context.{in_components}
use Rattle.wcv_spaces.specs.Contents.{Contents}
use Rattle.wcv_spaces.specs.Promises.{Keeps}
use Rattle.wcv_spaces.proofs.Keeping.{keeps_grown_marked}
use Rattle.wcv_decls.proofs.Storing.{stored_in}
use Rattle.wcv_decls.proofs.component.join_component.Goals as goal

pub returns-in_err-id-clause-keeps : goal.returns-in_err-id-clause-keeps
returns-in_err-id-clause-keeps c =
    let p = err_from_is_err_and c.from_residual.result c.from_residual.ensures.1 in
    let a = c.args.types.now in
    let b = c.add_component.new.types in
    let s : Contents = c.args.state.now in
    rw p.1 (subst (λ (z : Contents). Keeps a b s z) (sym c.in_err-id.ensures.err) (keeps_grown_marked a b s s true c.in_err-id.ensures.grown refl c.requires.stands))

pub returns-clause-ok : goal.returns-clause-ok
returns-clause-ok c =
    stored_in c.args.types.now c.add_component.new.types c.args.state.now (node.Component c.args.ty) c.in_ok-id.ensures.added.0 c.requires.stands in_components c.add_component.new.self c.in_ok-id.id c.requires.live
    c.in_ok-id.ensures.stands (λ x. refl) c.in_ok-id.ensures.tree c.in_ok-id.ensures.ok

pub returns-clause-added : goal.returns-clause-added
returns-clause-added c = c.in_ok-id.ensures.added
