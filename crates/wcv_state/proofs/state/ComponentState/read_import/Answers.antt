use Rattle.std.proofs.Common.{sym, ap, subst, inl}
use Rattle.std.specs.Prelude.{All}
use Rattle.std.proofs.lemmas.Result.{err_from_is_err_and}
use Rattle.wcv_core.proofs.Closing.{caused_same}
use Rattle.wcv_types.specs.Standing.{Extends}
use Rattle.wcv_types.proofs.Grown.{extends_refl, extends_trans}
use Rattle.wcv_lower.specs.Context.{in_types}
use Rattle.wcv_spaces.specs.Contents.{Contents, IdStands}
use Rattle.wcv_state.specs.Inside.{contents_of}
use Rattle.wcv_spaces.specs.Looking.{written_id_checks, GivesWritten}
use Rattle.wcv_spaces.specs.Promises.{MemoryOrCausedBy}
use Rattle.wcv_state.proofs.ItemCalls.{ref_looked_in, ref_caused, written_opens}
use Rattle.wcv_instantiate.proofs.Opened.{opened_found}
use Rattle.wcv_state.proofs.state.ComponentState.read_import.Goals as goal

pub written-requires : goal.written-requires
written-requires c = subst (All (IdStands c.args.types.now in_types)) (sym (ap (λ (z : Contents). z.spaces.types) c.self.view_is)) (c.requires.stands.space in_types)

pub returns-in_err-entity-clause-err : goal.returns-in_err-entity-clause-err
returns-in_err-entity-clause-err c =
    let p = err_from_is_err_and c.from_residual.result c.from_residual.ensures.1 in
    rw p.1 (caused_same _ c.args.offset c.in_err-entity.field-0.0 p.0 p.2.0 p.2.1 (ref_caused c.args.types.now c.args.self.now c.requires.stands c.args.ty.now c.args.offset c.in_err-entity.field-0.0
    (subst (λ (z : Contents). MemoryOrCausedBy (written_id_checks z.features z.spaces c.args.ty.now) c.args.offset c.in_err-entity.field-0.0) c.self.view_is c.in_err-entity.ensures.err)))

pub returns-in_err-entity-clause-grown : goal.returns-in_err-entity-clause-grown
returns-in_err-entity-clause-grown c = subst (Extends c.args.types.now) (sym c.in_err-entity.ensures.same) (extends_refl c.args.types.now)

pub open_entity-requires-clause-stands : goal.open_entity-requires-clause-stands
open_entity-requires-clause-stands c =
    let w = ref_looked_in c.args.types.now c.written.new.types c.args.self.now (contents_of c.self.inside) c.args.ty.now c.in_ok-entity.entity c.self.view_is c.requires.stands c.in_ok-entity.ensures.ok c.in_ok-entity.ensures.free in
    w.stands

pub open_entity-requires-clause-opens : goal.open_entity-requires-clause-opens
open_entity-requires-clause-opens c =
    written_opens c.args.types.now c.written.new.types c.args.self.now.spaces c.args.ty.now c.in_ok-entity.entity
    (subst (λ (z : Contents). GivesWritten c.args.types.now c.written.new.types z.spaces c.args.ty.now c.in_ok-entity.entity) c.self.view_is c.in_ok-entity.ensures.ok) c.requires.opens

pub returns-in_err-new-clause-err : goal.returns-in_err-new-clause-err
returns-in_err-new-clause-err c =
    let p = err_from_is_err_and c.from_residual-in_err-new.result c.from_residual-in_err-new.ensures.1 in
    rw p.1 (inl p.2)

pub returns-in_err-new-clause-grown : goal.returns-in_err-new-clause-grown
returns-in_err-new-clause-grown c =
    let w = ref_looked_in c.args.types.now c.written.new.types c.args.self.now (contents_of c.self.inside) c.args.ty.now c.in_ok-entity.entity c.self.view_is c.requires.stands c.in_ok-entity.ensures.ok c.in_ok-entity.ensures.free in
    extends_trans c.args.types.now c.written.new.types c.open_entity.new.types w.grown c.in_err-new.ensures.grown

pub returns-clause-ok : goal.returns-clause-ok
returns-clause-ok c =
    opened_found c.args.types.now c.written.new.types c.open_entity.new.types c.in_ok-entity.entity c.in_ok-new.new _ _
    (ref_looked_in c.args.types.now c.written.new.types c.args.self.now (contents_of c.self.inside) c.args.ty.now c.in_ok-entity.entity c.self.view_is c.requires.stands c.in_ok-entity.ensures.ok c.in_ok-entity.ensures.free) c.in_ok-new.ensures.ok

pub returns-clause-grown : goal.returns-clause-grown
returns-clause-grown c =
    let w = ref_looked_in c.args.types.now c.written.new.types c.args.self.now (contents_of c.self.inside) c.args.ty.now c.in_ok-entity.entity c.self.view_is c.requires.stands c.in_ok-entity.ensures.ok c.in_ok-entity.ensures.free in
    extends_trans c.args.types.now c.written.new.types c.open_entity.new.types w.grown c.in_ok-new.ensures.grown
