use Rattle.std.proofs.Common.{List, [], ◌∷◌, All, inr, subst, sym}
use Rattle.std.specs.Prelude.{slice_get}
use Rattle.std.proofs.lemmas.Result.{err_from_is_err_and}
use Rattle.wcv_core.proofs.Closing.{caused_same}
use Rattle.wcv_core.specs.declared.error.ErrorKind.TheVariants as kind
use Rattle.wcv_types.specs.ByName.{texts_in}
use Rattle.wcv_types.specs.Standing.{Stands}
use Rattle.wcv_types.specs.Tree.{Text, is_instance}
use Rattle.wcv_types.specs.declared.ids.ComponentCoreInstanceTypeId.{ComponentCoreInstanceTypeId}
use Rattle.wcv_types.specs.declared.ids.Part.TheVariants as p
use Rattle.wcv_lower.specs.Checks.{IsFree, missing, has_repeat, no_room}
use Rattle.wcv_lower.specs.Context.{counts}
use Rattle.wcv_spaces.specs.Contents.{context_of}
use Rattle.wcv_spaces.specs.Promises.{MemoryOrCausedBy}
use Rattle.wcv_instances.specs.CoreInstances.{served_checks}
use Rattle.wcv_instances.proofs.CoreInstances.{args_stand, module_stands, of_module_made, of_module_free, module_missing, arg_missing, module_unserved, arg_repeated, no_room_here}
use Rattle.wcv_instances.proofs.core_instances.of_module.Goals as goal

pub returns-in_err-id-clause-err : goal.returns-in_err-id-clause-err
returns-in_err-id-clause-err c =
    let q = err_from_is_err_and c.from_residual.result c.from_residual.ensures.1 in
    rw q.1 (λ outer. module_missing c.args.types.now c.args.state.now c.requires c.args.module_index c.args.args.items c.args.state.now.features outer c.args.offset q.0 (caused_same (missing (slice_get c.args.state.now.spaces.core_modules c.args.module_index)) c.args.offset c.in_err-id.field-0.0 q.0 q.2.0 q.2.1 (inr c.in_err-id.ensures.err)))

pub returns-in_err-found-clause-err : goal.returns-in_err-found-clause-err
returns-in_err-found-clause-err c =
    let q = err_from_is_err_and c.from_residual-in_err-found.result c.from_residual-in_err-found.ensures.1 in
    rw (q.1, q.2) (λ outer. arg_missing c.args.types.now c.args.state.now c.requires c.args.module_index c.args.args.items c.args.state.now.features outer c.args.offset c.in_err-found.field-0.0 c.in_err-found.ensures.err)

pub returns-in_err-check_differ-clause-err : goal.returns-in_err-check_differ-clause-err
returns-in_err-check_differ-clause-err c =
    let q = err_from_is_err_and c.from_residual-in_err-check_differ.result c.from_residual-in_err-check_differ.ensures.1 in
    rw (q.1, q.2) (λ outer. arg_repeated c.args.types.now c.args.state.now c.requires c.args.module_index c.args.args.items c.args.state.now.features outer c.args.offset c.in_err-check_differ.field-0.0 c.in_ok-found.found.items c.in_ok-found.ensures.ok
    (subst (λ (xs : List (Text × ComponentCoreInstanceTypeId)). MemoryOrCausedBy ((kind.Conflict, has_repeat (texts_in xs)) ∷ []) c.args.offset c.in_err-check_differ.field-0.0) c.as_slice-list.ensures.value c.in_err-check_differ.ensures.err))

pub returns-in_err-check_room-clause-err : goal.returns-in_err-check_room-clause-err
returns-in_err-check_room-clause-err c =
    let q = err_from_is_err_and c.from_residual-in_err-check_room.result c.from_residual-in_err-check_room.ensures.1 in
    rw q.1 (λ outer. no_room_here c.args.types.now c.args.state.now c.requires c.args.module_index c.args.args.items c.args.state.now.features outer c.args.offset q.0 (caused_same (no_room (counts (context_of c.args.types.now c.args.state.now)) is_instance) c.args.offset c.in_err-check_room.field-0.0 q.0 q.2.0 q.2.1 c.in_err-check_room.ensures.err))

pub check_served-requires-clause-args : goal.check_served-requires-clause-args
check_served-requires-clause-args c =
    subst (All (λ (y : Text × ComponentCoreInstanceTypeId). Stands c.args.types.now (p.CoreInstance y.1))) (sym c.as_slice-list.ensures.value) (args_stand c.args.types.now c.args.state.now c.requires c.args.args.items c.in_ok-found.found.items c.in_ok-found.ensures.ok)

pub check_served-requires-clause-stands : goal.check_served-requires-clause-stands
check_served-requires-clause-stands c = module_stands c.args.types.now c.args.state.now c.requires c.args.module_index c.args.args.items c.in_ok-id.id c.in_ok-id.ensures.ok

pub returns-in_err-check_served-clause-err : goal.returns-in_err-check_served-clause-err
returns-in_err-check_served-clause-err c =
    let q = err_from_is_err_and c.from_residual-in_err-check_served.result c.from_residual-in_err-check_served.ensures.1 in
    rw (q.1, q.2) (λ outer. module_unserved c.args.types.now c.args.state.now c.requires c.args.module_index c.args.args.items c.args.state.now.features outer c.args.offset c.in_err-check_served.field-0.0 c.in_ok-id.id c.in_ok-found.found.items c.in_ok-id.ensures.ok c.in_ok-found.ensures.ok
    (subst (λ (xs : List (Text × ComponentCoreInstanceTypeId)). MemoryOrCausedBy (served_checks c.args.types.now xs c.in_ok-id.id) c.args.offset c.in_err-check_served.field-0.0) c.as_slice-list.ensures.value c.in_err-check_served.ensures.err))

pub core_instance_of-requires : goal.core_instance_of-requires
core_instance_of-requires c = module_stands c.args.types.now c.args.state.now c.requires c.args.module_index c.args.args.items c.in_ok-id.id c.in_ok-id.ensures.ok

pub returns-clause-made : goal.returns-clause-made
returns-clause-made c = of_module_made c.args.types.now c.args.state.now c.requires c.args.module_index c.args.args.items c.in_ok-id.id c.in_ok-found.found.items c.core_instance_of.result c.in_ok-id.ensures.ok c.in_ok-found.ensures.ok c.core_instance_of.ensures.kind c.core_instance_of.ensures.size

pub returns-clause-free : goal.returns-clause-free
returns-clause-free c = λ outer.
    of_module_free c.args.types.now c.args.state.now c.requires c.args.module_index c.args.args.items c.args.state.now.features outer c.in_ok-id.id c.in_ok-found.found.items c.in_ok-id.ensures.ok c.in_ok-found.ensures.ok c.in_ok-found.ensures.free
    (subst (λ (xs : List (Text × ComponentCoreInstanceTypeId)). IsFree (served_checks c.args.types.now xs c.in_ok-id.id)) c.as_slice-list.ensures.value c.in_ok-check_served.ensures.ok)
    (subst (λ (xs : List (Text × ComponentCoreInstanceTypeId)). IsFree ((kind.Conflict, has_repeat (texts_in xs)) ∷ [])) c.as_slice-list.ensures.value c.in_ok-check_differ.ensures.ok) c.in_ok-check_room.ensures.ok
