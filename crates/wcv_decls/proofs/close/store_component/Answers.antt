use Rattle.std.proofs.lemmas.Result.{on_ok_weaker, on_err_weaker}
use Rattle.wcv_types.specs.declared.arena.Node.TheVariants as node
use Rattle.wcv_types.specs.declared.ids.ComponentAnyTypeId.TheVariants as any
use Rattle.wcv_decls.proofs.Storing.{spent_keeps, stored}
use Rattle.wcv_decls.proofs.close.store_component.Goals as goal

pub returns-clause-ok : goal.returns-clause-ok
returns-clause-ok c =
    on_ok_weaker c.push_type.result
    (λ e. stored c.args.types.now c.push_ty.new.self c.args.state.now (node.Component c.args.ty) c.in_ok-id.ensures.added c.requires.stands c.push_type.new.self (any.Component c.in_ok-id.id) c.requires.live c.in_ok-id.ensures.stands c.in_ok-id.ensures.tree e)
    c.push_type.ensures.ok

pub returns-clause-keeps : goal.returns-clause-keeps
returns-clause-keeps c =
    on_err_weaker c.push_type.result
    (λ e. spent_keeps c.args.types.now c.push_ty.new.self c.args.state.now (node.Component c.args.ty) c.in_ok-id.ensures.added c.requires.stands c.push_type.new.self e)
    c.push_type.ensures.err
