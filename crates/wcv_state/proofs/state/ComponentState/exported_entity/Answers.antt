use Rattle.std.proofs.Common.{◌≡◌, sym, ap, subst, inr, Some}
use Rattle.std.specs.Prelude.{All, None}
use Rattle.std.proofs.lemmas.Result.{err_from_is_err_and}
use Rattle.wcv_core.proofs.Closing.{caused_same}
use Rattle.wcv_types.specs.Standing.{Extends}
use Rattle.wcv_types.proofs.Grown.{extends_refl}
use Rattle.wcv_lower.specs.Context.{in_types}
use Rattle.wcv_lower.specs.Values.{kind_checks}
use Rattle.wcv_spaces.specs.Contents.{Contents, IdStands}
use Rattle.wcv_state.specs.Inside.{contents_of}
use Rattle.wcv_spaces.specs.Looking.{item_id, item_id_checks, written_id_checks, GivesExported}
use Rattle.wcv_spaces.specs.Promises.{CausedBy, MemoryOrCausedBy}
use Rattle.wcv_state.proofs.ExportedItems.{item_found}
use Rattle.wcv_state.proofs.ItemCalls.{ref_looked_in, item_lacks, item_absent, item_unwritten, item_unmatched}
use Rattle.wcv_state.proofs.ItemsAt.{item_stands}
use Rattle.wcv_spaces.proofs.Keeping.{entity_more}
use Rattle.wcv_state.proofs.state.ComponentState.exported_entity.Goals as goal

pub returns-in_err-check_kind-clause-grown : goal.returns-in_err-check_kind-clause-grown
returns-in_err-check_kind-clause-grown c = extends_refl c.args.types.now

pub returns-in_err-check_kind-clause-err : goal.returns-in_err-check_kind-clause-err
returns-in_err-check_kind-clause-err c =
    let p = err_from_is_err_and c.from_residual.result c.from_residual.ensures.1 in
    rw p.1 (λ q. item_lacks c.args.types.now c.args.types.now c.args.self.now q c.args.export.now c.args.offset p.0
    (caused_same _ c.args.offset c.in_err-check_kind.field-0.0 p.0 p.2.0 p.2.1
    (subst (λ (z : Contents). MemoryOrCausedBy (kind_checks z.features c.args.export.now.kind) c.args.offset c.in_err-check_kind.field-0.0) c.self.view_is c.in_err-check_kind.ensures.err)))

pub exported-requires : goal.exported-requires
exported-requires c = subst (All (IdStands c.args.types.now in_types)) (sym (ap (λ (z : Contents). z.spaces.types) c.self.view_is)) (c.requires.space in_types)

pub returns-in_err-entity-in-None-clause-grown : goal.returns-in_err-entity-in-None-clause-grown
returns-in_err-entity-in-None-clause-grown c = subst (Extends c.args.types.now) (sym c.in_err-entity-in-None.ensures.same) (extends_refl c.args.types.now)

pub returns-in_err-entity-in-None-clause-err : goal.returns-in_err-entity-in-None-clause-err
returns-in_err-entity-in-None-clause-err c =
    let p = err_from_is_err_and c.from_residual-in_err-entity-in-None.result c.from_residual-in_err-entity-in-None.ensures.1 in
    rw p.1 (λ q. item_absent c.args.types.now c.exported.new.types c.args.self.now q c.args.export.now c.args.offset p.0 c.requires
    (caused_same _ c.args.offset c.in_err-entity-in-None.field-0.0 p.0 p.2.0 p.2.1
    (subst (λ (z : Contents). MemoryOrCausedBy (item_id_checks z.spaces c.args.export.now.kind c.args.export.now.index) c.args.offset c.in_err-entity-in-None.field-0.0) c.self.view_is c.in_err-entity-in-None.ensures.err)))

pub returns-in_ok-entity-in-None-clause-grown : goal.returns-in_ok-entity-in-None-clause-grown
returns-in_ok-entity-in-None-clause-grown c =
    (item_found c.args.types.now c.args.self.now c.requires c.exported.new.types c.args.export.now None c.in_ok-entity-in-None.entity
    (subst (λ (z : Contents). GivesExported c.args.types.now c.exported.new.types z.spaces c.args.export.now.kind c.args.export.now.index c.in_ok-entity-in-None.entity) c.self.view_is c.in_ok-entity-in-None.ensures.ok)).grown

pub returns-in_err-item-in-Some-clause-grown : goal.returns-in_err-item-in-Some-clause-grown
returns-in_err-item-in-Some-clause-grown c = extends_refl c.args.types.now

pub returns-in_err-item-in-Some-clause-err : goal.returns-in_err-item-in-Some-clause-err
returns-in_err-item-in-Some-clause-err c =
    let p = err_from_is_err_and c.from_residual-in_err-item-in-Some.result c.from_residual-in_err-item-in-Some.ensures.1 in
    rw p.1 (λ q. item_absent c.args.types.now c.args.types.now c.args.self.now q c.args.export.now c.args.offset p.0 c.requires
    (caused_same _ c.args.offset c.in_err-item-in-Some.field-0.0 p.0 p.2.0 p.2.1
    (inr (subst (λ (z : Contents). CausedBy (item_id_checks z.spaces c.args.export.now.kind c.args.export.now.index) c.args.offset c.in_err-item-in-Some.field-0.0) c.self.view_is c.in_err-item-in-Some.ensures.err))))

pub written-requires : goal.written-requires
written-requires c = subst (All (IdStands c.args.types.now in_types)) (sym (ap (λ (z : Contents). z.spaces.types) c.self.view_is)) (c.requires.space in_types)

pub returns-in_err-entity-in-Some-clause-grown : goal.returns-in_err-entity-in-Some-clause-grown
returns-in_err-entity-in-Some-clause-grown c = subst (Extends c.args.types.now) (sym c.in_err-entity-in-Some.ensures.same) (extends_refl c.args.types.now)

pub returns-in_err-entity-in-Some-clause-err : goal.returns-in_err-entity-in-Some-clause-err
returns-in_err-entity-in-Some-clause-err c =
    let p = err_from_is_err_and c.from_residual-in_err-entity-in-Some.result c.from_residual-in_err-entity-in-Some.ensures.1 in
    let ty : c.args.export.now.ty ≡ Some c.in-Some.ty = cc in
    rw p.1 (λ q. item_unwritten c.args.types.now c.written.new.types c.args.self.now q c.args.export.now c.args.offset p.0 c.requires c.in-Some.ty ty
    (caused_same _ c.args.offset c.in_err-entity-in-Some.field-0.0 p.0 p.2.0 p.2.1
    (subst (λ (z : Contents). MemoryOrCausedBy (written_id_checks z.features z.spaces c.in-Some.ty) c.args.offset c.in_err-entity-in-Some.field-0.0) c.self.view_is c.in_err-entity-in-Some.ensures.err)))

pub check_ascribed-requires-clause-item : goal.check_ascribed-requires-clause-item
check_ascribed-requires-clause-item c =
    let w = ref_looked_in c.args.types.now c.written.new.types c.args.self.now (contents_of c.self.inside) c.in-Some.ty c.in_ok-entity-in-Some.entity c.self.view_is c.requires c.in_ok-entity-in-Some.ensures.ok c.in_ok-entity-in-Some.ensures.free in
    entity_more c.args.types.now c.written.new.types w.grown c.in_ok-item-in-Some.item
    (item_stands c.args.types.now c.args.self.now c.requires c.args.export.now.kind c.args.export.now.index c.in_ok-item-in-Some.item
    (subst (λ (z : Contents). item_id z.spaces c.args.export.now.kind c.args.export.now.index ≡ Some c.in_ok-item-in-Some.item) c.self.view_is c.in_ok-item-in-Some.ensures.ok))

pub check_ascribed-requires-clause-ty : goal.check_ascribed-requires-clause-ty
check_ascribed-requires-clause-ty c =
    (ref_looked_in c.args.types.now c.written.new.types c.args.self.now (contents_of c.self.inside) c.in-Some.ty c.in_ok-entity-in-Some.entity c.self.view_is c.requires c.in_ok-entity-in-Some.ensures.ok c.in_ok-entity-in-Some.ensures.free).stands

pub returns-in-Ok-clause-grown : goal.returns-in-Ok-clause-grown
returns-in-Ok-clause-grown c =
    (ref_looked_in c.args.types.now c.written.new.types c.args.self.now (contents_of c.self.inside) c.in-Some.ty c.in_ok-entity-in-Some.entity c.self.view_is c.requires c.in_ok-entity-in-Some.ensures.ok c.in_ok-entity-in-Some.ensures.free).grown

pub returns-in-Err-clause-grown : goal.returns-in-Err-clause-grown
returns-in-Err-clause-grown c =
    (ref_looked_in c.args.types.now c.written.new.types c.args.self.now (contents_of c.self.inside) c.in-Some.ty c.in_ok-entity-in-Some.entity c.self.view_is c.requires c.in_ok-entity-in-Some.ensures.ok c.in_ok-entity-in-Some.ensures.free).grown

pub returns-in-Err-clause-err : goal.returns-in-Err-clause-err
returns-in-Err-clause-err c =
    let w = ref_looked_in c.args.types.now c.written.new.types c.args.self.now (contents_of c.self.inside) c.in-Some.ty c.in_ok-entity-in-Some.entity c.self.view_is c.requires c.in_ok-entity-in-Some.ensures.ok c.in_ok-entity-in-Some.ensures.free in
    let ty : c.args.export.now.ty ≡ Some c.in-Some.ty = cc in
    λ p. item_unmatched c.args.types.now c.written.new.types c.args.self.now p c.args.export.now c.args.offset c.in-Err.error c.requires c.in-Some.ty ty c.in_ok-item-in-Some.item c.in_ok-entity-in-Some.entity
    (subst (λ (z : Contents). item_id z.spaces c.args.export.now.kind c.args.export.now.index ≡ Some c.in_ok-item-in-Some.item) c.self.view_is c.in_ok-item-in-Some.ensures.ok) w c.in-Err.ensures.err
