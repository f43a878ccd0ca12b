use Rattle.std.proofs.Common.{refl, subst, sym, true}
use Rattle.std.proofs.lemmas.Result.{err_from_is_err_and}
use Rattle.wcv_types.proofs.Grown.{extends_refl}
use Rattle.wcv_spaces.specs.Promises.{Keeps}
use Rattle.wcv_state.proofs.ExportAliases.{entity_keeps, export_grew}
use Rattle.wcv_spaces.proofs.Keeping.{keeps_grown, keeps_marked}
use Rattle.wcv_state.proofs.state.ComponentState.add_export_alias.Goals as goal

pub returns-in_err-item-clause-err : goal.returns-in_err-item-clause-err
returns-in_err-item-clause-err c =
    let q = err_from_is_err_and c.from_residual.result c.from_residual.ensures.1 in
    rw (q.1, q.2)
    (λ outer n p. c.in_err-item.ensures.err)

pub returns-in_err-item-clause-keeps : goal.returns-in_err-item-clause-keeps
returns-in_err-item-clause-keeps c = keeps_grown c.args.types.now c.args.types.now c.args.self.now (extends_refl c.args.types.now) c.requires.stands

pub returns-in_err-push_entity-clause-keeps : goal.returns-in_err-push_entity-clause-keeps
returns-in_err-push_entity-clause-keeps c =
    subst (Keeps c.args.types.now c.args.types.now c.args.self.now) (sym c.in_err-push_entity.ensures.err) (keeps_marked c.args.types.now c.args.self.now c.args.self.now true refl c.requires.stands)

pub returns-clause-ok : goal.returns-clause-ok
returns-clause-ok c =
    export_grew c.args.types.now c.args.self.now c.push_entity.new.self c.requires.stands c.requires.live c.args.kind c.args.index c.args.name c.in_ok-item.item c.in_ok-item.ensures.ok c.in_ok-push_entity.ensures.ok c.in_ok-item.ensures.free

pub returns-clause-keeps : goal.returns-clause-keeps
returns-clause-keeps c =
    subst (Keeps c.args.types.now c.args.types.now c.args.self.now) (sym c.in_ok-push_entity.ensures.ok)
    (entity_keeps c.args.types.now c.args.self.now c.requires.stands c.in_ok-item.item c.in_ok-item.ensures.ok.stands)
