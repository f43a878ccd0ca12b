use Rattle.std.proofs.Common.{inr}
use Rattle.std.proofs.lemmas.Result.{err_from_is_err_and}
use Rattle.wcv_core.proofs.Closing.{caused_left}
use Rattle.wcv_syntax.specs.CoreItems.{ref_checks, entity_of}
use Rattle.wcv_syntax.specs.ModuleTypes.{if_entity, export_checks}
use Rattle.wcv_module.proofs.Joins.{joins_free, joins_caused}
use Rattle.wcv_module.proofs.module.Module.add_written_export.Goals as goal

pub returns-in_err-entity-clause-cause : goal.returns-in_err-entity-clause-cause
returns-in_err-entity-clause-cause c =
    let m = c.args.self.now in
    let gs = c.args.core.now in
    let t = c.args.ty.now in
    let p = err_from_is_err_and c.from_residual.result c.from_residual.ensures.1 in
    rw (p.1, p.2) (inr (caused_left (ref_checks m.features gs m.types t) (if_entity (export_checks gs m c.args.name.now) (entity_of m.types t)) c.args.offset c.in_err-entity.field-0.0 c.in_err-entity.ensures.err))

pub returns-in-Ok-clause-free : goal.returns-in-Ok-clause-free
returns-in-Ok-clause-free c =
    let m = c.args.self.now in
    let gs = c.args.core.now in
    let t = c.args.ty.now in
    joins_free (ref_checks m.features gs m.types t) (export_checks gs m c.args.name.now) (entity_of m.types t) c.in_ok-entity.entity c.in_ok-entity.ensures.ok c.in_ok-entity.ensures.free c.in-Ok.ensures.free

pub returns-in-Err-clause-cause : goal.returns-in-Err-clause-cause
returns-in-Err-clause-cause c =
    let m = c.args.self.now in
    let gs = c.args.core.now in
    let t = c.args.ty.now in
    joins_caused (ref_checks m.features gs m.types t) (export_checks gs m c.args.name.now) (entity_of m.types t) c.in_ok-entity.entity c.args.offset c.in-Err.err c.in_ok-entity.ensures.ok c.in-Err.ensures.cause
