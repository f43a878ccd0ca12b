use Rattle.wcv_core.specs.CoreGroups.{AreClosed}
use Rattle.wcv_core.specs.CoreTable.{AreDistinct}
use Rattle.std.proofs.Common.{List, [], ◌∷◌, All, inr, subst, sym}
use Rattle.std.specs.Prelude.{slice_get}
use Rattle.std.proofs.lemmas.Result.{err_from_is_err_and}
use Rattle.wcv_core.proofs.Closing.{caused_same}
use Rattle.wcv_core.specs.declared.error.ErrorKind.TheVariants as kind
use Rattle.wcv_core.specs.Names.{Name}
use Rattle.wcv_syntax.specs.Model.{instantiate}
use Rattle.wcv_types.proofs.Grown.{extends_refl}
use Rattle.wcv_types.specs.ByName.{texts_in}
use Rattle.wcv_types.specs.Tree.{Text, is_instance}
use Rattle.wcv_types.specs.Unfold.{tree_at}
use Rattle.wcv_types.specs.declared.ids.Part.TheVariants as p
use Rattle.wcv_types.specs.declared.shapes.ComponentEntityType.{ComponentEntityType}
use Rattle.wcv_closed.specs.ClosedTable.{IsTable}
use Rattle.wcv_subtype.specs.Openings.{ArgumentStands, named_args}
use Rattle.wcv_matching.specs.Refusals.{MemoryOrMismatch}
use Rattle.wcv_matching.specs.TableMatching.{Opens}
use Rattle.wcv_lower.specs.Checks.{IsFree, missing, has_repeat, no_room}
use Rattle.wcv_lower.specs.Context.{counts}
use Rattle.wcv_spaces.specs.Contents.{context_of}
use Rattle.wcv_instantiate.specs.Instantiations.{ComponentInstanceMade, MayInstantiate}
use Rattle.wcv_spaces.specs.Promises.{MemoryOrCausedBy}
use Rattle.wcv_instances.specs.ComponentInstances.{size_checks}
use Rattle.wcv_instances.proofs.FromComponent.{arg_twice, args_stand, component_instance, component_stands, full_here, may_be_made, no_arg, no_component, not_opened, too_large}
use Rattle.wcv_instances.proofs.InstanceGrown.{memory_caused}
use Rattle.wcv_instances.proofs.component_instances.of_component.Goals as goal

abbrev Found : Type 0
Found = List (Text × ComponentEntityType)

pub returns-in_err-id-clause-err : goal.returns-in_err-id-clause-err
returns-in_err-id-clause-err c =
    let q = err_from_is_err_and c.from_residual.result c.from_residual.ensures.1 in
    rw q.1 (no_component c.args.types.now c.args.state.now c.requires.stands c.args.component_index c.args.args.items c.args.types.now c.args.offset q.0
    (caused_same (missing (slice_get c.args.state.now.spaces.components c.args.component_index)) c.args.offset c.in_err-id.field-0.0 q.0 q.2.0 q.2.1 (inr c.in_err-id.ensures.err)))

pub returns-in_err-id-clause-grown : goal.returns-in_err-id-clause-grown
returns-in_err-id-clause-grown c = extends_refl _

pub returns-in_err-found-clause-err : goal.returns-in_err-found-clause-err
returns-in_err-found-clause-err c =
    let q = err_from_is_err_and c.from_residual-in_err-found.result c.from_residual-in_err-found.ensures.1 in
    rw (q.1, q.2) (no_arg c.args.types.now c.args.state.now c.requires.stands c.args.component_index c.args.args.items c.args.types.now c.args.offset c.in_err-found.field-0.0 c.in_err-found.ensures.err)

pub returns-in_err-found-clause-grown : goal.returns-in_err-found-clause-grown
returns-in_err-found-clause-grown c = extends_refl _

pub check_args_differ-requires : goal.check_args_differ-requires
check_args_differ-requires c = component_stands c.args.types.now c.args.state.now c.requires.stands c.args.component_index c.args.args.items c.in_ok-id.id c.in_ok-id.ensures.ok

pub returns-in_err-check_args_differ-clause-err : goal.returns-in_err-check_args_differ-clause-err
returns-in_err-check_args_differ-clause-err c =
    let q = err_from_is_err_and c.from_residual-in_err-check_args_differ.result c.from_residual-in_err-check_args_differ.ensures.1 in
    rw (q.1, q.2) (arg_twice c.args.types.now c.args.state.now c.requires.stands c.args.component_index c.args.args.items c.args.types.now c.args.offset c.in_err-check_args_differ.field-0.0 c.in_ok-found.found.items c.in_ok-found.ensures.ok
    (subst (λ (xs : Found). MemoryOrCausedBy ((kind.Conflict, has_repeat (texts_in xs)) ∷ []) c.args.offset c.in_err-check_args_differ.field-0.0) c.as_slice-list.ensures.value c.in_err-check_args_differ.ensures.err))

pub returns-in_err-check_args_differ-clause-grown : goal.returns-in_err-check_args_differ-clause-grown
returns-in_err-check_args_differ-clause-grown c = extends_refl _

pub returns-in_err-check_room-clause-err : goal.returns-in_err-check_room-clause-err
returns-in_err-check_room-clause-err c =
    let q = err_from_is_err_and c.from_residual-in_err-check_room.result c.from_residual-in_err-check_room.ensures.1 in
    rw q.1 (full_here c.args.types.now c.args.state.now c.requires.stands c.args.component_index c.args.args.items c.args.types.now c.args.offset q.0
    (caused_same (no_room (counts (context_of c.args.types.now c.args.state.now)) is_instance) c.args.offset c.in_err-check_room.field-0.0 q.0 q.2.0 q.2.1 c.in_err-check_room.ensures.err))

pub returns-in_err-check_room-clause-grown : goal.returns-in_err-check_room-clause-grown
returns-in_err-check_room-clause-grown c = extends_refl _

pub returns-in_err-map-clause-err : goal.returns-in_err-map-clause-err
returns-in_err-map-clause-err c =
    let q = err_from_is_err_and c.from_residual-in_err-map.result c.from_residual-in_err-map.ensures.1 in
    rw q.1 (memory_caused c.args.types.now c.args.types.now c.args.state.now (instantiate c.args.component_index c.args.args.items) c.args.offset q.0 q.2)

pub returns-in_err-map-clause-grown : goal.returns-in_err-map-clause-grown
returns-in_err-map-clause-grown c = extends_refl _

pub instance_of_component-requires-clause-stands : goal.instance_of_component-requires-clause-stands
instance_of_component-requires-clause-stands c = component_stands c.args.types.now c.args.state.now c.requires.stands c.args.component_index c.args.args.items c.in_ok-id.id c.in_ok-id.ensures.ok

pub instance_of_component-requires-clause-args : goal.instance_of_component-requires-clause-args
instance_of_component-requires-clause-args c =
    subst (λ (xs : Found). All (ArgumentStands c.args.types.now) xs) (sym c.in_ok-map.ensures) (args_stand c.args.types.now c.args.state.now c.requires.stands c.args.args.items c.in_ok-found.found.items c.in_ok-found.ensures.ok)

pub instance_of_component-requires-clause-may : goal.instance_of_component-requires-clause-may
instance_of_component-requires-clause-may c =
    subst (λ (xs : Found). MayInstantiate (named_args c.args.types.now xs) (tree_at c.args.types.now (p.Component c.in_ok-id.id))) (sym c.in_ok-map.ensures)
    (may_be_made c.args.types.now c.args.state.now c.requires.stands c.args.component_index c.args.args.items c.in_ok-id.id c.in_ok-found.found.items c.in_ok-id.ensures.ok c.in_ok-found.ensures.ok c.requires.opens)

pub returns-in_err-made-clause-err : goal.returns-in_err-made-clause-err
returns-in_err-made-clause-err c =
    let q = err_from_is_err_and c.from_residual-in_err-made.result c.from_residual-in_err-made.ensures.1 in
    let table : IsTable c.args.types.now.core = record { closed = subst (AreClosed 0) c.core_types.ensures c.len-count.ensures.closed; distinct = subst AreDistinct c.core_types.ensures c.len-count.ensures.distinct } in
    rw (q.1, q.2) (not_opened c.args.types.now c.args.state.now c.requires.stands c.args.component_index c.args.args.items c.instance_of_component.new.types c.args.offset c.in_err-made.field-0.0 c.nodes_fit.ensures.all table c.in_ok-id.id c.in_ok-found.found.items c.in_ok-id.ensures.ok c.in_ok-found.ensures.ok
    (subst (λ (xs : Found). MemoryOrMismatch c.args.offset ((u : Name → Name) × Opens c.args.types.now.core u (named_args c.args.types.now xs) (tree_at c.args.types.now (p.Component c.in_ok-id.id))) c.in_err-made.field-0.0) c.in_ok-map.ensures c.in_err-made.ensures.err))

pub check_size-requires : goal.check_size-requires
check_size-requires c = c.in_ok-made.ensures.ok.stands

pub returns-in_err-check_size-clause-err : goal.returns-in_err-check_size-clause-err
returns-in_err-check_size-clause-err c =
    let a = c.args.types.now in
    let b = c.instance_of_component.new.types in
    let q = err_from_is_err_and c.from_residual-in_err-check_size.result c.from_residual-in_err-check_size.ensures.1 in
    let table : IsTable a.core = record { closed = subst (AreClosed 0) c.core_types.ensures c.len-count.ensures.closed; distinct = subst AreDistinct c.core_types.ensures c.len-count.ensures.distinct } in
    let made : ComponentInstanceMade a b c.in_ok-found.found.items c.in_ok-id.id c.in_ok-made.made = subst (λ (xs : Found). ComponentInstanceMade a b xs c.in_ok-id.id c.in_ok-made.made) c.in_ok-map.ensures c.in_ok-made.ensures.ok in
    let ok = subst (λ (xs : Found). (u : Name → Name) × Opens a.core u (named_args a xs) (tree_at a (p.Component c.in_ok-id.id))) c.in_ok-map.ensures c.in_ok-made.ensures.opens in
    rw q.1 (too_large a c.args.state.now c.requires.stands c.args.component_index c.args.args.items c.in_ok-id.id c.in_ok-found.found.items c.in_ok-id.ensures.ok c.in_ok-found.ensures.ok c.nodes_fit.ensures.all table ok b c.in_ok-made.made made c.args.offset q.0
    (caused_same (size_checks (tree_at b (p.Instance c.in_ok-made.made.ty))) c.args.offset c.in_err-check_size.field-0.0 q.0 q.2.0 q.2.1 c.in_err-check_size.ensures.err))

pub returns-clause-ok : goal.returns-clause-ok
returns-clause-ok c =
    let a = c.args.types.now in
    let b = c.instance_of_component.new.types in
    let table : IsTable a.core = record { closed = subst (AreClosed 0) c.core_types.ensures c.len-count.ensures.closed; distinct = subst AreDistinct c.core_types.ensures c.len-count.ensures.distinct } in
    let made : ComponentInstanceMade a b c.in_ok-found.found.items c.in_ok-id.id c.in_ok-made.made = subst (λ (xs : Found). ComponentInstanceMade a b xs c.in_ok-id.id c.in_ok-made.made) c.in_ok-map.ensures c.in_ok-made.ensures.ok in
    let ok = subst (λ (xs : Found). (u : Name → Name) × Opens a.core u (named_args a xs) (tree_at a (p.Component c.in_ok-id.id))) c.in_ok-map.ensures c.in_ok-made.ensures.opens in
    component_instance a c.args.state.now c.requires.stands c.args.component_index c.args.args.items c.in_ok-id.id c.in_ok-found.found.items c.in_ok-id.ensures.ok c.in_ok-found.ensures.ok c.nodes_fit.ensures.all table ok b c.in_ok-made.made made c.in_ok-found.ensures.free
    (subst (λ (xs : Found). IsFree ((kind.Conflict, has_repeat (texts_in xs)) ∷ [])) c.as_slice-list.ensures.value c.in_ok-check_args_differ.ensures.ok) c.in_ok-check_room.ensures.ok c.in_ok-check_size.ensures.ok
