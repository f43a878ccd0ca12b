use Rattle.std.proofs.Common.{◌≡◌, ◌∙◌, List, All, ap, subst, sym}
use Rattle.std.proofs.lemmas.Result.{err_from_is_err_and}
use Rattle.wcv_core.proofs.Closing.{caused_same}
use Rattle.wcv_core.specs.declared.features.WasmFeatures.{WasmFeatures}
use Rattle.wcv_syntax.specs.Model.{bag}
use Rattle.wcv_types.proofs.Grown.{extends_refl}
use Rattle.wcv_types.specs.ByName.{NamesDiffer}
use Rattle.wcv_types.specs.Arena.{Arena}
use Rattle.wcv_types.specs.Entities.{entry_trees, EntityStands, EntryStands}
use Rattle.wcv_types.specs.Standing.{Extends}
use Rattle.wcv_types.specs.Tree.{Text, is_instance}
use Rattle.wcv_types.specs.Unfold.{trees}
use Rattle.wcv_types.specs.declared.item_map.ComponentItem.{ComponentItem}
use Rattle.wcv_lower.specs.Checks.{IsFree, no_room}
use Rattle.wcv_lower.specs.Context.{counts}
use Rattle.wcv_spaces.specs.Contents.{context_of}
use Rattle.wcv_instantiate.specs.Opening.{InstancePushed}
use Rattle.wcv_spaces.specs.Promises.{MemoryOrCausedBy}
use Rattle.wcv_instantiate.proofs.NewResources.{same_grown}
use Rattle.wcv_instances.specs.ComponentInstances.{as_entries, list_checks}
use Rattle.wcv_instances.proofs.FromItems.{Found, entries_stand, item_refused, items_stand, list_refused, listed_instance, room_refused}
use Rattle.wcv_instances.proofs.InstanceGrown.{memory_caused}
use Rattle.wcv_instances.proofs.component_instances.of_exports.Goals as goal

pub returns-in_err-found-clause-err : goal.returns-in_err-found-clause-err
returns-in_err-found-clause-err c =
    let q = err_from_is_err_and c.from_residual.result c.from_residual.ensures.1 in
    rw (q.1, q.2) (item_refused c.args.types.now c.args.state.now c.requires.stands c.args.exports.items c.args.types.now c.args.offset c.in_err-found.field-0.0 c.in_err-found.ensures.err)

pub returns-in_err-found-clause-grown : goal.returns-in_err-found-clause-grown
returns-in_err-found-clause-grown c = extends_refl _

pub returns-in_err-check_room-clause-err : goal.returns-in_err-check_room-clause-err
returns-in_err-check_room-clause-err c =
    let q = err_from_is_err_and c.from_residual-in_err-check_room.result c.from_residual-in_err-check_room.ensures.1 in
    rw q.1 (room_refused c.args.types.now c.args.state.now c.requires.stands c.args.exports.items c.args.types.now c.args.offset q.0
    (caused_same (no_room (counts (context_of c.args.types.now c.args.state.now)) is_instance) c.args.offset c.in_err-check_room.field-0.0 q.0 q.2.0 q.2.1 c.in_err-check_room.ensures.err))

pub returns-in_err-check_room-clause-grown : goal.returns-in_err-check_room-clause-grown
returns-in_err-check_room-clause-grown c = extends_refl _

pub list_items-requires : goal.list_items-requires
list_items-requires c =
    subst (λ (xs : Found). All (λ y. EntityStands c.args.types.now y.1) xs) (sym c.as_slice.ensures.value) (items_stand c.args.types.now c.args.state.now c.requires.stands c.args.exports.items c.in_ok-found.found.items c.in_ok-found.ensures.ok)

pub returns-in_err-items-clause-err : goal.returns-in_err-items-clause-err
returns-in_err-items-clause-err c =
    let q = err_from_is_err_and c.from_residual-in_err-items.result c.from_residual-in_err-items.ensures.1 in
    rw (q.1, q.2) (list_refused c.args.types.now c.args.state.now c.requires.stands c.args.exports.items c.list_items.new.types c.args.offset c.in_err-items.field-0.0 c.in_ok-found.found.items c.in_ok-found.ensures.ok
    (subst (λ (fs : WasmFeatures). MemoryOrCausedBy (list_checks fs (entry_trees (trees c.args.types.now.nodes) (as_entries c.in_ok-found.found.items))) c.args.offset c.in_err-items.field-0.0) c.features.ensures
    (subst (λ (xs : Found). MemoryOrCausedBy (list_checks c.features.result.now (entry_trees (trees c.args.types.now.nodes) (as_entries xs))) c.args.offset c.in_err-items.field-0.0) c.as_slice.ensures.value c.in_err-items.ensures.err)))

pub returns-in_err-items-clause-grown : goal.returns-in_err-items-clause-grown
returns-in_err-items-clause-grown c = same_grown _ _ c.list_items.ensures.types

pub push_instance-requires-clause-stand : goal.push_instance-requires-clause-stand
push_instance-requires-clause-stand c =
    subst (λ (a : Arena). All (EntryStands a) c.in_ok-items.items) (sym c.list_items.ensures.types)
    (subst (All (EntryStands c.args.types.now)) (sym (c.in_ok-items.ensures.ok ∙ ap as_entries c.as_slice.ensures.value))
    (entries_stand c.args.types.now c.in_ok-found.found.items (items_stand c.args.types.now c.args.state.now c.requires.stands c.args.exports.items c.in_ok-found.found.items c.in_ok-found.ensures.ok)))

pub push_instance-requires-clause-apart : goal.push_instance-requires-clause-apart
push_instance-requires-clause-apart c = subst NamesDiffer (sym c.in_ok-items.ensures.ok) c.in_ok-items.ensures.apart

pub returns-in_err-ty-clause-err : goal.returns-in_err-ty-clause-err
returns-in_err-ty-clause-err c =
    let q = err_from_is_err_and c.from_residual-in_err-ty.result c.from_residual-in_err-ty.ensures.1 in
    rw q.1 (memory_caused c.args.types.now c.push_instance.new.types c.args.state.now (bag c.args.exports.items) c.args.offset q.0 q.2)

pub returns-in_err-ty-clause-grown : goal.returns-in_err-ty-clause-grown
returns-in_err-ty-clause-grown c = same_grown _ _ (c.in_err-ty.ensures.err ∙ c.list_items.ensures.types)

pub returns-clause-ok : goal.returns-clause-ok
returns-clause-ok c =
    let found : Found = c.in_ok-found.found.items in
    let es : c.in_ok-items.items ≡ as_entries found = c.in_ok-items.ensures.ok ∙ ap as_entries c.as_slice.ensures.value in
    let pushed : InstancePushed c.args.types.now c.push_instance.new.types (as_entries found) c.in_ok-ty.ty =
    subst (λ (xs : List (Text × ComponentItem)). InstancePushed c.args.types.now c.push_instance.new.types xs c.in_ok-ty.ty) es
    (subst (λ (a : Arena). InstancePushed a c.push_instance.new.types c.in_ok-items.items c.in_ok-ty.ty) c.list_items.ensures.types c.in_ok-ty.ensures.ok) in
    listed_instance c.args.types.now c.args.state.now c.requires.stands c.args.exports.items found c.in_ok-found.ensures.ok c.push_instance.new.types c.in_ok-ty.ty c.new.result pushed c.new.ensures c.in_ok-found.ensures.free c.in_ok-check_room.ensures.ok
    (subst (λ (fs : WasmFeatures). IsFree (list_checks fs (entry_trees (trees c.args.types.now.nodes) (as_entries found)))) c.features.ensures
    (subst (λ (xs : Found). IsFree (list_checks c.features.result.now (entry_trees (trees c.args.types.now.nodes) (as_entries xs)))) c.as_slice.ensures.value c.in_ok-items.ensures.free))

pub returns-clause-grown : goal.returns-clause-grown
returns-clause-grown c = subst (λ (a : Arena). Extends a c.push_instance.new.types) c.list_items.ensures.types c.in_ok-ty.ensures.ok.grown
