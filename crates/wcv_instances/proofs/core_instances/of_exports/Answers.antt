use Rattle.std.proofs.Common.{◌≡◌, ◌≤◌, ◌∙◌, suc, List, [], ◌∷◌, All, subst, sym}
use Rattle.std.proofs.lemmas.Result.{err_from_is_err_and}
use Rattle.wcv_core.proofs.Closing.{caused_same}
use Rattle.wcv_core.specs.CoreForm.{Group}
use Rattle.wcv_core.specs.CoreGroups.{total}
use Rattle.wcv_core.specs.CoreSizes.{IsEntityWithin}
use Rattle.wcv_core.specs.Limits.{max_size}
use Rattle.wcv_core.specs.declared.core_types.EntityType.{EntityType}
use Rattle.wcv_core.specs.declared.error.ErrorKind.TheVariants as kind
use Rattle.wcv_types.specs.ByName.{texts_in}
use Rattle.wcv_types.specs.Standing.{entity_sizes}
use Rattle.wcv_types.specs.Tree.{Text, is_instance}
use Rattle.wcv_lower.specs.Checks.{IsFree, has_repeat, no_room, too_many}
use Rattle.wcv_lower.specs.Context.{counts}
use Rattle.wcv_spaces.specs.Contents.{context_of}
use Rattle.wcv_spaces.specs.Promises.{MemoryOrCausedBy}
use Rattle.wcv_instances.specs.CoreInstances.{items_of}
use Rattle.wcv_instances.proofs.CoreInstances.{items_within, of_exports_made, of_exports_free, item_missing, list_too_large, name_repeated, list_no_room}
use Rattle.wcv_instances.proofs.core_instances.of_exports.Goals as goal

pub returns-in_err-found-clause-err : goal.returns-in_err-found-clause-err
returns-in_err-found-clause-err c =
    let q = err_from_is_err_and c.from_residual.result c.from_residual.ensures.1 in
    rw (q.1, q.2) (λ outer. item_missing c.args.types.now c.args.state.now c.args.exports.items c.args.state.now.features outer c.args.offset c.in_err-found.field-0.0 c.in_err-found.ensures.err)

pub returns-in_err-check_differ-clause-err : goal.returns-in_err-check_differ-clause-err
returns-in_err-check_differ-clause-err c =
    let q = err_from_is_err_and c.from_residual-in_err-check_differ.result c.from_residual-in_err-check_differ.ensures.1 in
    rw (q.1, q.2) (λ outer. name_repeated c.args.types.now c.args.state.now c.args.exports.items c.in_ok-found.found.items c.in_ok-found.ensures.ok c.args.state.now.features outer c.args.offset c.in_err-check_differ.field-0.0
    (subst (λ (xs : List (Text × EntityType)). MemoryOrCausedBy ((kind.Conflict, has_repeat (texts_in xs)) ∷ []) c.args.offset c.in_err-check_differ.field-0.0) c.as_slice-list.ensures.value c.in_err-check_differ.ensures.err))

pub returns-in_err-check_room-clause-err : goal.returns-in_err-check_room-clause-err
returns-in_err-check_room-clause-err c =
    let q = err_from_is_err_and c.from_residual-in_err-check_room.result c.from_residual-in_err-check_room.ensures.1 in
    rw q.1 (λ outer. list_no_room c.args.types.now c.args.state.now c.args.exports.items c.in_ok-found.found.items c.in_ok-found.ensures.ok c.args.state.now.features outer c.args.offset q.0 (caused_same (no_room (counts (context_of c.args.types.now c.args.state.now)) is_instance) c.args.offset c.in_err-check_room.field-0.0 q.0 q.2.0 q.2.1 c.in_err-check_room.ensures.err))

pub check_size-requires : goal.check_size-requires
check_size-requires c =
    let w = items_within c.args.types.now c.args.state.now c.requires c.args.exports.items c.in_ok-found.found.items c.in_ok-found.ensures.ok in
    subst (λ (gs : List Group). All (λ (e : Text × EntityType). IsEntityWithin (total gs) e.1) c.as_slice-list.result.now) (sym c.core_types.ensures)
    (subst (All (λ (e : Text × EntityType). IsEntityWithin (total c.args.types.now.core) e.1)) (sym c.as_slice-list.ensures.value) w)

pub returns-in_err-size-clause-err : goal.returns-in_err-size-clause-err
returns-in_err-size-clause-err c =
    let q = err_from_is_err_and c.from_residual-in_err-size.result c.from_residual-in_err-size.ensures.1 in
    rw q.1 (λ outer. list_too_large c.args.types.now c.args.state.now c.args.exports.items c.in_ok-found.found.items c.in_ok-found.ensures.ok c.args.state.now.features outer c.args.offset q.0 (caused_same (too_many max_size (suc (entity_sizes c.args.types.now.core (items_of c.in_ok-found.found.items)))) c.args.offset c.in_err-size.field-0.0 q.0 q.2.0 q.2.1
    (subst (λ (gs : List Group). MemoryOrCausedBy (too_many max_size (suc (entity_sizes gs (items_of c.in_ok-found.found.items)))) c.args.offset c.in_err-size.field-0.0) c.core_types.ensures
    (subst (λ (xs : List (Text × EntityType)). MemoryOrCausedBy (too_many max_size (suc (entity_sizes c.core_types.result.now (items_of xs)))) c.args.offset c.in_err-size.field-0.0) c.as_slice-list.ensures.value c.in_err-size.ensures.err))))

pub listing-requires-clause-within : goal.listing-requires-clause-within
listing-requires-clause-within c = items_within c.args.types.now c.args.state.now c.requires c.args.exports.items c.in_ok-found.found.items c.in_ok-found.ensures.ok

pub listing-requires-clause-size : goal.listing-requires-clause-size
listing-requires-clause-size c =
    subst (λ (gs : List Group). c.in_ok-size.size ≡ suc (entity_sizes gs (items_of c.in_ok-found.found.items))) c.core_types.ensures
    (subst (λ (xs : List (Text × EntityType)). c.in_ok-size.size ≡ suc (entity_sizes c.core_types.result.now (items_of xs))) c.as_slice-list.ensures.value c.in_ok-size.ensures.ok)

pub returns-clause-made : goal.returns-clause-made
returns-clause-made c =
    let large = (subst (λ (gs : List Group). c.in_ok-size.size ≡ suc (entity_sizes gs (items_of c.in_ok-found.found.items))) c.core_types.ensures
    (subst (λ (xs : List (Text × EntityType)). c.in_ok-size.size ≡ suc (entity_sizes c.core_types.result.now (items_of xs))) c.as_slice-list.ensures.value c.in_ok-size.ensures.ok)) in
    of_exports_made c.args.types.now c.args.state.now c.args.exports.items c.in_ok-found.found.items c.in_ok-found.ensures.ok c.listing.result c.listing.ensures.kind (c.listing.ensures.size ∙ large) (subst (λ n. n ≤ max_size) large c.in_ok-size.ensures.small)

pub returns-clause-free : goal.returns-clause-free
returns-clause-free c = λ outer.
    of_exports_free c.args.types.now c.args.state.now c.args.exports.items c.in_ok-found.found.items c.in_ok-found.ensures.ok c.args.state.now.features outer c.in_ok-found.ensures.free
    (subst (λ (gs : List Group). IsFree (too_many max_size (suc (entity_sizes gs (items_of c.in_ok-found.found.items))))) c.core_types.ensures
    (subst (λ (xs : List (Text × EntityType)). IsFree (too_many max_size (suc (entity_sizes c.core_types.result.now (items_of xs))))) c.as_slice-list.ensures.value c.in_ok-size.ensures.free))
    (subst (λ (xs : List (Text × EntityType)). IsFree ((kind.Conflict, has_repeat (texts_in xs)) ∷ [])) c.as_slice-list.ensures.value c.in_ok-check_differ.ensures.ok) c.in_ok-check_room.ensures.ok
