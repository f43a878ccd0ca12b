use Rattle.std.proofs.Common.{◌≡◌, [], ◌∷◌, ◌++◌, ◌∙◌, ap, arith}
use Rattle.wcv_types.specs.Unfold.{tree_at}
use Rattle.wcv_types.specs.declared.ids.Part.TheVariants as p
use Rattle.wcv_types.specs.declared.shapes.ComponentEntityType.TheVariants as entity
use Rattle.wcv_remap.specs.Map.{Map, resource_to}
use Rattle.wcv_call_tests.proofs.MadeOf.{later, no_type_given, one_given, reached_among}
use Rattle.wcv_call_tests.proofs.shared.replaced.Goals as goal

pub push_resource-requires : goal.push_resource-requires
push_resource-requires g c = ap (λ (m : Map). resource_to m c.args.old) c.new-map.ensures

pub remap_component_entity-requires-clause-stands : goal.remap_component_entity-requires-clause-stands
remap_component_entity-requires-clause-stands g c = c.requires.made.stand (p.Func c.args.id) c.requires.made.itself

pub remap_component_entity-requires-clause-sound : goal.remap_component_entity-requires-clause-sound
remap_component_entity-requires-clause-sound g c =
    let map = c.push_resource.new.self in
    let a = c.args.types.now.types in
    let ok = c.in_ok-push_resource.ensures.ok in
    c.a_map_of_resources_is_sound.ensures a map (ap (λ (m : Map). m.types) ok ∙ ap (λ (m : Map). m.types) c.new-map.ensures)
    (one_given a c.args.old c.args.new map.resources (ap (λ (m : Map). m.resources) ok ∙ ap (λ (m : Map). m.resources ++ (c.args.old, c.args.new) ∷ []) c.new-map.ensures) c.requires.new)

pub remap_component_entity-requires-clause-hygienic : goal.remap_component_entity-requires-clause-hygienic
remap_component_entity-requires-clause-hygienic g c = λ m s.
    let map = c.push_resource.new.self in
    let a = c.args.types.now.types in
    let none : map.types ≡ [] = ap (λ (m : Map). m.types) c.in_ok-push_resource.ensures.ok ∙ ap (λ (m : Map). m.types) c.new-map.ensures in
    c.what_spares_owned_resources_is_hygienic.ensures m (tree_at a (p.Func c.args.id)) (c.a_map_of_resources_replaces_no_node.ensures a map m s (no_type_given map.types none)) (c.requires.made.spares m)

pub returns-clause-once : goal.returns-clause-once
returns-clause-once g c =
    let a = c.args.types.now.types in
    let b = c.remap_component_entity.new.types.types in
    let h = later a b 21 (p.Func c.args.id) c.remap_component_entity.ensures.grown c.requires.made in
    let r =
    c.a_rebuilding_reads_at_most_what_is_reached.ensures a b c.push_resource.new.self c.remap_component_entity.new.map c.args.steps.now c.remap_component_entity.new.steps (entity.Func c.args.id) c.remap_component_entity.new.ty h.types
    c.in_ok-remap_component_entity.ensures.done c.in_ok-remap_component_entity.ensures.once (reached_among b 21 (p.Func c.args.id) h) in
    (omega (arith, r.0, h.count), omega (arith, r.1, h.count))

pub returns-clause-stands : goal.returns-clause-stands
returns-clause-stands g c = c.in_ok-remap_component_entity.ensures.done.stands
