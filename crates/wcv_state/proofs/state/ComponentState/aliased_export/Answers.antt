use Rattle.std.proofs.Common.{◌∙◌, [], ◌∷◌, ap, not, ◌&&◌, subst, inr}
use Rattle.std.specs.Prelude.{Option, slice_get}
use Rattle.std.specs.Option.{option_map}
use Rattle.std.proofs.lemmas.Result.{err_from_is_err_and}
use Rattle.wcv_core.specs.declared.error.ErrorKind.TheVariants as kind
use Rattle.wcv_core.proofs.Closing.{caused_same}
use Rattle.wcv_types.specs.Entities.{entity_tree}
use Rattle.wcv_types.specs.Exported.{exports_at}
use Rattle.wcv_types.specs.Unfold.{trees}
use Rattle.wcv_types.specs.declared.shapes.ComponentEntityType.{ComponentEntityType}
use Rattle.wcv_lower.specs.Aliases.{is_admitted, sort_named}
use Rattle.wcv_lower.specs.Checks.{IsFree, missing, no_room}
use Rattle.wcv_lower.specs.Context.{is_concrete}
use Rattle.wcv_lower.specs.Values.{kind_checks}
use Rattle.wcv_spaces.specs.Contents.{Contents, kind_of}
use Rattle.wcv_spaces.specs.Entering.{room_counts}
use Rattle.wcv_spaces.specs.Promises.{CausedBy, MemoryOrCausedBy}
use Rattle.wcv_state.proofs.ExportAliases.{instance_stands, export_same, export_stands, export_free, feature_caused, scope_caused, index_caused, name_caused, room_caused}
use Rattle.wcv_state.proofs.state.ComponentState.aliased_export.Goals as goal

pub exports_of-requires : goal.exports_of-requires
exports_of-requires c = instance_stands c.args.types.now c.args.self.now c.requires c.args.kind c.args.index c.args.name.now c.in_ok-id.id c.in_ok-id.ensures.ok

pub named_export-requires : goal.named_export-requires
named_export-requires c = instance_stands c.args.types.now c.args.self.now c.requires c.args.kind c.args.index c.args.name.now c.in_ok-id.id c.in_ok-id.ensures.ok

pub returns-in_err-check_kind-clause-err : goal.returns-in_err-check_kind-clause-err
returns-in_err-check_kind-clause-err c =
    let q = err_from_is_err_and c.from_residual.result c.from_residual.ensures.1 in
    rw q.1 (feature_caused c.args.types.now c.args.self.now c.requires c.args.kind c.args.index c.args.name.now c.args.offset q.0 (caused_same _ c.args.offset c.in_err-check_kind.field-0.0 q.0 q.2.0 q.2.1
    (subst (λ (z : Contents). MemoryOrCausedBy (kind_checks z.features c.args.kind) c.args.offset c.in_err-check_kind.field-0.0) c.self.view_is c.in_err-check_kind.ensures.err)))

pub returns-in_err-check_sort-clause-err : goal.returns-in_err-check_sort-clause-err
returns-in_err-check_sort-clause-err c =
    let q = err_from_is_err_and c.from_residual-in_err-check_sort.result c.from_residual-in_err-check_sort.ensures.1 in
    rw q.1 (scope_caused c.args.types.now c.args.self.now c.requires c.args.kind c.args.index c.args.name.now c.args.offset q.0 (caused_same ((kind.AliasKind, not (is_concrete (kind_of c.args.self.now.kind)) && not (is_admitted c.args.kind)) ∷ []) c.args.offset c.in_err-check_sort.field-0.0 q.0 q.2.0 q.2.1
    (inr (subst (λ (z : Contents). CausedBy ((kind.AliasKind, not (is_concrete (kind_of z.kind)) && not (is_admitted c.args.kind)) ∷ []) c.args.offset c.in_err-check_sort.field-0.0) c.self.view_is c.in_err-check_sort.ensures.err))))

pub returns-in_err-id-clause-err : goal.returns-in_err-id-clause-err
returns-in_err-id-clause-err c =
    let q = err_from_is_err_and c.from_residual-in_err-id.result c.from_residual-in_err-id.ensures.1 in
    rw q.1 (index_caused c.args.types.now c.args.self.now c.requires c.args.kind c.args.index c.args.name.now c.args.offset q.0 (caused_same (missing (slice_get c.args.self.now.spaces.instances c.args.index)) c.args.offset c.in_err-id.field-0.0 q.0 q.2.0 q.2.1 (inr c.in_err-id.ensures.err)))

pub returns-in_err-item-clause-err : goal.returns-in_err-item-clause-err
returns-in_err-item-clause-err c =
    let q = err_from_is_err_and c.from_residual-in_err-item.result c.from_residual-in_err-item.ensures.1 in
    rw (q.1, q.2)
    (name_caused c.args.types.now c.args.self.now c.requires c.args.kind c.args.index c.args.name.now c.args.offset c.in_err-item.field-0.0 c.in_ok-id.id c.in_ok-id.ensures.ok (exports_at c.args.types.now c.in_ok-id.id) c.exports_of.ensures.trees c.exports_of.ensures.stand
    (inr c.in_err-item.ensures.err))

pub returns-in_err-check_sort_room-clause-err : goal.returns-in_err-check_sort_room-clause-err
returns-in_err-check_sort_room-clause-err c =
    let q = err_from_is_err_and c.from_residual-in_err-check_sort_room.result c.from_residual-in_err-check_sort_room.ensures.1 in
    rw q.1 (room_caused c.args.types.now c.args.self.now c.requires c.args.kind c.args.index c.args.name.now c.args.offset q.0 (caused_same _ c.args.offset c.in_err-check_sort_room.field-0.0 q.0 q.2.0 q.2.1
    (subst (λ (z : Contents). MemoryOrCausedBy (no_room (room_counts z.spaces) (sort_named c.args.kind)) c.args.offset c.in_err-check_sort_room.field-0.0) c.self.view_is c.in_err-check_sort_room.ensures.err)))

pub returns-clause-ok : goal.returns-clause-ok
returns-clause-ok c = record {
  instance = c.in_ok-id.id;
  at = c.in_ok-id.ensures.ok;
  export = export_same c.args.types.now c.in_ok-id.id c.args.name.now (exports_at c.args.types.now c.in_ok-id.id) c.exports_of.ensures.trees ∙ ap (λ (o : Option ComponentEntityType). option_map (entity_tree (trees c.args.types.now.nodes)) o) c.in_ok-item.ensures.ok;
  sort = c.in_ok-item.ensures.sort;
  stands = export_stands c.args.types.now c.args.name.now (exports_at c.args.types.now c.in_ok-id.id) c.exports_of.ensures.stand c.in_ok-item.item c.in_ok-item.ensures.ok;
}

pub returns-clause-free : goal.returns-clause-free
returns-clause-free c =
    export_free c.args.types.now c.args.self.now c.requires c.args.kind c.args.index c.args.name.now c.in_ok-item.item (returns-clause-ok c)
    (subst (λ (z : Contents). IsFree (kind_checks z.features c.args.kind)) c.self.view_is c.in_ok-check_kind.ensures.ok)
    (subst (λ (z : Contents). IsFree ((kind.AliasKind, not (is_concrete (kind_of z.kind)) && not (is_admitted c.args.kind)) ∷ [])) c.self.view_is c.in_ok-check_sort.ensures.ok)
    (subst (λ (z : Contents). IsFree (no_room (room_counts z.spaces) (sort_named c.args.kind))) c.self.view_is c.in_ok-check_sort_room.ensures.ok)
