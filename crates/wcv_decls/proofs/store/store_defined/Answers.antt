use Rattle.std.proofs.lemmas.Result.{err_from_is_err_and}
use Rattle.wcv_types.specs.declared.arena.Node.TheVariants as node
use Rattle.wcv_types.specs.declared.ids.ComponentAnyTypeId.TheVariants as any
use Rattle.wcv_decls.proofs.Storing.{node_keeps, spent_keeps, stored}
use Rattle.wcv_decls.proofs.store.store_defined.Goals as goal

pub returns-in_err-check_size-clause-keeps : goal.returns-in_err-check_size-clause-keeps
returns-in_err-check_size-clause-keeps c =
    let p = err_from_is_err_and c.from_residual-in_err-check_size.result c.from_residual-in_err-check_size.ensures.1 in
    rw p.1 (node_keeps c.args.types.now c.push_ty.new.self c.args.state.now (node.Defined c.args.shape) c.in_ok-id.ensures.added c.requires.stands)

pub returns-in_err-push_type-clause-keeps : goal.returns-in_err-push_type-clause-keeps
returns-in_err-push_type-clause-keeps c =
    let p = err_from_is_err_and c.from_residual-in_err-push_type.result c.from_residual-in_err-push_type.ensures.1 in
    rw p.1 (spent_keeps c.args.types.now c.push_ty.new.self c.args.state.now (node.Defined c.args.shape) c.in_ok-id.ensures.added c.requires.stands c.push_type.new.self c.in_err-push_type.ensures.err)

pub returns-clause-ok : goal.returns-clause-ok
returns-clause-ok c =
    stored c.args.types.now c.push_ty.new.self c.args.state.now (node.Defined c.args.shape) c.in_ok-id.ensures.added c.requires.stands c.push_type.new.self (any.Defined c.in_ok-id.id) c.requires.live
    c.in_ok-id.ensures.stands c.in_ok-id.ensures.tree c.in_ok-push_type.ensures.ok
