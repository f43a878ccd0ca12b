use Rattle.std.proofs.Common.{[], ◌∷◌, not, subst, inr}
use Rattle.std.proofs.lemmas.Result.{err_from_is_err_and}
use Rattle.wcv_core.specs.declared.error.ErrorKind.TheVariants as kind
use Rattle.wcv_core.proofs.Closing.{caused_same}
use Rattle.wcv_lower.specs.Checks.{IsFree}
use Rattle.wcv_lower.specs.Context.{is_concrete}
use Rattle.wcv_lower.specs.CoreInstances.{sort_needs, no_item_room}
use Rattle.wcv_spaces.specs.Contents.{Contents, kind_of}
use Rattle.wcv_spaces.specs.Entering.{room_counts}
use Rattle.wcv_spaces.specs.Promises.{MemoryOrCausedBy}
use Rattle.wcv_state.proofs.CoreAliases.{instance_stands, alias_free, export_caused, room_caused}
use Rattle.wcv_state.proofs.state.ComponentState.aliased_item.Goals as goal

pub core_export-requires : goal.core_export-requires
core_export-requires c = instance_stands c.args.types.now c.args.self.now c.requires c.args.kind c.args.index c.args.name.now c.in_ok-id.id c.in_ok-id.ensures.ok

pub returns-in_err-item-clause-err : goal.returns-in_err-item-clause-err
returns-in_err-item-clause-err c =
    let q = err_from_is_err_and c.from_residual-in_err-item.result c.from_residual-in_err-item.ensures.1 in
    rw (q.1, q.2) (export_caused c.args.types.now c.args.self.now c.requires c.args.kind c.args.index c.args.name.now c.args.self.now.features c.args.offset c.in_err-item.field-0.0 c.in_ok-id.id c.in_ok-id.ensures.ok (inr c.in_err-item.ensures.err))

pub returns-in_err-check_item_room-clause-err : goal.returns-in_err-check_item_room-clause-err
returns-in_err-check_item_room-clause-err c =
    let q = err_from_is_err_and c.from_residual-in_err-check_item_room.result c.from_residual-in_err-check_item_room.ensures.1 in
    rw q.1 (room_caused c.args.types.now c.args.self.now c.requires c.args.kind c.args.index c.args.name.now c.args.self.now.features c.args.offset q.0 (caused_same _ c.args.offset c.in_err-check_item_room.field-0.0 q.0 q.2.0 q.2.1
    (subst (λ (z : Contents). MemoryOrCausedBy (no_item_room (room_counts z.spaces) c.args.kind) c.args.offset c.in_err-check_item_room.field-0.0) c.self.view_is c.in_err-check_item_room.ensures.err)))

pub returns-clause-ok : goal.returns-clause-ok
returns-clause-ok c = record {
  instance = c.in_ok-id.id;
  at = c.in_ok-id.ensures.ok;
  export = c.in_ok-item.ensures.ok;
  sort = c.in_ok-item.ensures.sort;
  within = c.in_ok-item.ensures.within;
}

pub returns-clause-free : goal.returns-clause-free
returns-clause-free c =
    alias_free c.args.types.now c.args.self.now c.requires c.args.kind c.args.index c.args.name.now c.args.self.now.features c.in_ok-id.id c.in_ok-id.ensures.ok
    (subst (λ (z : Contents). IsFree ((kind.AliasKind, not (is_concrete (kind_of z.kind))) ∷ [])) c.self.view_is c.in_ok-check_scope.ensures.ok)
    (subst (λ (z : Contents). IsFree (sort_needs z.features c.args.kind)) c.self.view_is c.in_ok-check_core_sort.ensures.ok) c.in_ok-item.item c.in_ok-item.ensures.ok c.in_ok-item.ensures.sort
    (subst (λ (z : Contents). IsFree (no_item_room (room_counts z.spaces) c.args.kind)) c.self.view_is c.in_ok-check_item_room.ensures.ok)
