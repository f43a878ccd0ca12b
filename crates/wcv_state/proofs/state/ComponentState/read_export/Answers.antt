use Rattle.std.proofs.lemmas.Result.{err_from_is_err_and}
use Rattle.wcv_types.proofs.Grown.{extends_trans}
use Rattle.wcv_state.proofs.ExportedItems.{exported_found, item_opens}
use Rattle.wcv_state.proofs.ItemCalls.{item_memory}
use Rattle.wcv_instantiate.proofs.Opened.{opened_found}
use Rattle.wcv_state.proofs.state.ComponentState.read_export.Goals as goal

pub open_entity-requires-clause-stands : goal.open_entity-requires-clause-stands
open_entity-requires-clause-stands c =
    (exported_found c.args.types.now c.args.self.now c.requires.stands c.exported_entity.new.types c.args.export.now c.in-Ok.entity c.in-Ok.ensures.ok c.in-Ok.ensures.kind).stands

pub open_entity-requires-clause-opens : goal.open_entity-requires-clause-opens
open_entity-requires-clause-opens c =
    let w = exported_found c.args.types.now c.args.self.now c.requires.stands c.exported_entity.new.types c.args.export.now c.in-Ok.entity c.in-Ok.ensures.ok c.in-Ok.ensures.kind in
    item_opens c.args.types.now c.args.self.now c.requires.stands c.exported_entity.new.types c.args.export.now c.args.export.now.ty c.in-Ok.entity c.in-Ok.ensures.ok w.stands c.requires.opens

pub returns-in_err-new-in-Ok-clause-err : goal.returns-in_err-new-in-Ok-clause-err
returns-in_err-new-in-Ok-clause-err c =
    let p = err_from_is_err_and c.from_residual.result c.from_residual.ensures.1 in
    rw p.1 (λ q. item_memory c.args.types.now c.open_entity.new.types c.args.self.now q c.args.export.now c.args.offset p.0 p.2)

pub returns-in_err-new-in-Ok-clause-grown : goal.returns-in_err-new-in-Ok-clause-grown
returns-in_err-new-in-Ok-clause-grown c = extends_trans c.args.types.now c.exported_entity.new.types c.open_entity.new.types c.in-Ok.ensures.grown c.in_err-new-in-Ok.ensures.grown

pub returns-in_ok-new-in-Ok-clause-ok : goal.returns-in_ok-new-in-Ok-clause-ok
returns-in_ok-new-in-Ok-clause-ok c =
    let w = exported_found c.args.types.now c.args.self.now c.requires.stands c.exported_entity.new.types c.args.export.now c.in-Ok.entity c.in-Ok.ensures.ok c.in-Ok.ensures.kind in
    opened_found c.args.types.now c.exported_entity.new.types c.open_entity.new.types c.in-Ok.entity c.in_ok-new-in-Ok.new _ _ w c.in_ok-new-in-Ok.ensures.ok

pub returns-in_ok-new-in-Ok-clause-grown : goal.returns-in_ok-new-in-Ok-clause-grown
returns-in_ok-new-in-Ok-clause-grown c = extends_trans c.args.types.now c.exported_entity.new.types c.open_entity.new.types c.in-Ok.ensures.grown c.in_ok-new-in-Ok.ensures.grown
