use Rattle.std.proofs.Common.{◌≡◌, arith, List, map, refl, sym, ◌∙◌, ap, subst}
use Rattle.std.specs.Prelude.{All}
use Rattle.std.specs.List.{IsDistinct}
use Rattle.std.specs.Map.{keys_of}
use Rattle.std.proofs.lemmas.Result.{IfErr-weaker}
use Rattle.wcv_closed.specs.ClosedTable.{IsTable}
use Rattle.wcv_core.specs.Names.{Name}
use Rattle.wcv_types.specs.Sets.{same_resource}
use Rattle.wcv_types.specs.Tree.{Text}
use Rattle.wcv_types.specs.Unfold.{resource_path, tree_at, trees}
use Rattle.wcv_types.specs.declared.ids.Part.TheVariants as p
use Rattle.wcv_types.specs.declared.ids.ResourceId.{ResourceId}
use Rattle.wcv_types.specs.declared.shapes.ComponentEntityType.{ComponentEntityType}
use Rattle.wcv_matching.specs.OnePass.{given}
use Rattle.wcv_matching.specs.Refusals.{MemoryOrMismatch}
use Rattle.wcv_matching.specs.TableMatching.{Opens}
use Rattle.wcv_counterparts.specs.IdCounterparts.{lands_on}
use Rattle.wcv_atoms.specs.IdPasses.{named_trees}
use Rattle.wcv_subtype.specs.Openings.{named_args, ArgumentStands, IsOpening}
use Rattle.wcv_atoms.specs.Readings.{given_as, resource_name}
use Rattle.wcv_subtype.proofs.Landing.{read_found}
use Rattle.wcv_subtype.proofs.Opening.{args_stand, as_args, imports_stand, opening, opening_counts, opens, refused}
use Rattle.wcv_counterparts.proofs.OwnPaths.{found_distinct}
use Rattle.wcv_atoms.proofs.PassIds.{if_ok}
use Rattle.wcv_subtype.proofs.openings.open_instance_type.Goals as goal

pub counterparts_in-requires-clause-entries : goal.counterparts_in-requires-clause-entries
counterparts_in-requires-clause-entries g c = imports_stand c.args.types.now c.args.component.index c.visited-shape.result.now c.visited-shape.ensures.before

pub counterparts_in-requires-clause-others : goal.counterparts_in-requires-clause-others
counterparts_in-requires-clause-others g c = args_stand c.args.types.now c.in_ok-by_name.by_name (subst (All (ArgumentStands c.args.types.now)) (sym (ap as_args c.in_ok-by_name.ensures ∙ c.args-2.view_is)) c.requires.args)

pub open_found-requires-clause-args : goal.open_found-requires-clause-args
open_found-requires-clause-args g c = args_stand c.args.types.now c.in_ok-by_name.by_name (subst (All (ArgumentStands c.args.types.now)) (sym (ap as_args c.in_ok-by_name.ensures ∙ c.args-2.view_is)) c.requires.args)

pub open_found-requires-clause-imports : goal.open_found-requires-clause-imports
open_found-requires-clause-imports g c = imports_stand c.args.types.now c.args.component.index c.visited-shape.result.now c.visited-shape.ensures.before

pub open_found-requires-clause-found : goal.open_found-requires-clause-found
open_found-requires-clause-found g c =
    let ts = trees c.args.types.now.nodes in
    subst (λ (fs : List (ResourceId × ResourceId)). IsDistinct same_resource (keys_of fs)) (sym c.deref.ensures.value)
    (found_distinct c.visited-shape.result.now.imported_resources (named_trees ts c.visited-shape.result.now.imports) (named_trees ts c.in_ok-by_name.by_name) c.in_ok-found.found.items c.len-unique.ensures.unique c.in_ok-found.ensures.found)

pub returns-clause-err : goal.returns-clause-err
returns-clause-err g c =
    let a = c.args.types.now in
    let s = c.visited-shape.result.now in
    let es = c.in_ok-by_name.by_name in
    let fs = c.deref.result.now in
    let shown = ap as_args c.in_ok-by_name.ensures ∙ c.args-2.view_is in
    let stand = args_stand a es (subst (All (ArgumentStands a)) (sym shown) c.requires.args) in
    let table = subst IsTable c.core_types.ensures (record { closed = c.len-count.ensures.closed; distinct = c.len-count.ensures.distinct }) in
    let read = read_found (map resource_path s.imported_resources) (named_trees (trees a.nodes) s.imports) (named_trees (trees a.nodes) es) fs (map (λ (e : ResourceId × ResourceId). (resource_name e.0, given (resource_name e.1))) fs) given (given_as fs) (ap (map lands_on) c.deref.ensures.value ∙ c.in_ok-found.ensures.found) refl refl refl in
    IfErr-weaker c.open_found.result _ _
    (λ r w.
    subst (λ (xs : List (Text × ComponentEntityType)). MemoryOrMismatch c.args.offset ((q : Name → Name) × Opens a.core q (named_args a xs) (tree_at a (p.Component c.args.component))) r) shown
    (refused a c.nodes_fit.ensures.all es stand c.args.component s c.visited-shape.ensures.unfolds c.requires.component c.visited-shape.ensures.before table (given_as fs) read c.args.offset r w))
    c.open_found.ensures.err

pub returns-clause-ok : goal.returns-clause-ok
returns-clause-ok g c =
    let a = c.args.types.now in
    let s = c.visited-shape.result.now in
    let es = c.in_ok-by_name.by_name in
    let fs = c.deref.result.now in
    let shown = ap as_args c.in_ok-by_name.ensures ∙ c.args-2.view_is in
    let stand = args_stand a es (subst (All (ArgumentStands a)) (sym shown) c.requires.args) in
    let table = subst IsTable c.core_types.ensures (record { closed = c.len-count.ensures.closed; distinct = c.len-count.ensures.distinct }) in
    let read = read_found (map resource_path s.imported_resources) (named_trees (trees a.nodes) s.imports) (named_trees (trees a.nodes) es) fs (map (λ (e : ResourceId × ResourceId). (resource_name e.0, given (resource_name e.1))) fs) given (given_as fs) (ap (map lands_on) c.deref.ensures.value ∙ c.in_ok-found.ensures.found) refl refl refl in
    if_ok c.open_found.result
    (λ m w.
    subst (λ (xs : List (Text × ComponentEntityType)). (r : Name → Name) × Opens a.core r (named_args a xs) (tree_at a (p.Component c.args.component))) shown
    (opens a c.nodes_fit.ensures.all es stand c.args.component s c.visited-shape.ensures.unfolds c.requires.component c.visited-shape.ensures.before table (given_as fs) read w.passes))
    c.open_found.ensures.opens

pub returns-clause-map : goal.returns-clause-map
returns-clause-map g c =
    let a = c.args.types.now in
    let s = c.visited-shape.result.now in
    let es = c.in_ok-by_name.by_name in
    let fs = c.deref.result.now in
    let shown = ap as_args c.in_ok-by_name.ensures ∙ c.args-2.view_is in
    let stand = args_stand a es (subst (All (ArgumentStands a)) (sym shown) c.requires.args) in
    if_ok c.open_found.result
    (λ m w.
    subst (λ (xs : List (Text × ComponentEntityType)). IsOpening a xs c.args.component m) shown
    (opening a c.nodes_fit.ensures.all es stand c.args.component s c.visited-shape.ensures.unfolds c.requires.component c.visited-shape.ensures.before c.names_given.ensures (given_as fs) m fs (ap (map lands_on) c.deref.ensures.value ∙ c.in_ok-found.ensures.found) w.resources w.given w.distinct w.passes))
    c.open_found.ensures.opens

pub returns-clause-counted : goal.returns-clause-counted
returns-clause-counted g c =
    let w = opening_counts c.args.types.now c.args.component.index c.visited-shape.result.now _ c.in_ok-by_name.by_name _ c.visited-shape.ensures.unfolds (ap as_args c.in_ok-by_name.ensures ∙ c.args-2.view_is) in
    omega (arith, w, c.visited-shape.ensures.counted, c.in_ok-found.ensures.counted, c.open_found.ensures.counted)
