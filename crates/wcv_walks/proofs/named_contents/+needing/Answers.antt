use Rattle.std.proofs.Common.{rules, arith, sym, ◌∙◌, ap, subst}
use Rattle.std.specs.Prelude.{option_copied}
use Rattle.std.proofs.lemmas.Result.{on_ok_weaker}
use Rattle.wcv_types.specs.Entities.{any_part, entity_tree, EntityStands}
use Rattle.wcv_types.specs.Named.{are_named, passes}
use Rattle.wcv_walks.specs.Needing.{beside, AllNeeded}
use Rattle.wcv_types.specs.Standing.{Stands}
use Rattle.wcv_types.specs.Tree.{export}
use Rattle.wcv_types.specs.Unfold.{slot_parts, slots_of, tree_at, trees}
use Rattle.wcv_types.specs.declared.arena.Node.TheVariants as n
use Rattle.wcv_types.specs.declared.ids.ComponentAnyTypeId.{ComponentAnyTypeId}
use Rattle.wcv_types.specs.declared.ids.Part.TheVariants as part
use Rattle.wcv_types.specs.declared.shapes.ComponentEntityType.{ComponentEntityType}
use Rattle.wcv_walks.proofs.FreeBelow.{entry_rank, entries_ready}
use Rattle.wcv_walks.proofs.NamedExports.{module_passes, component_passes}
use Rattle.wcv_walks.proofs.Needing.{needs_nothing, needs_as, needs_more, known_needs, known_put, none_gone, one_gone, all_gone, instance_needs, none_seen, seen_kept, seen_beside}
use Rattle.wcv_walks.proofs.named_contents.+needing.Goals as goal

-- ## What is exported

pub need_entity-returns-in-Module-clause-needed : goal.need_entity-returns-in-Module-clause-needed
need_entity-returns-in-Module-clause-needed t c =
    needs_nothing c.args.types.now (λ ids. passes (beside ids c.args.created.now c.args.set.now) (entity_tree (trees c.args.types.now.nodes) c.args.ty)) c.args.needed.now c.requires.needed
    (λ ids. ap (λ (ty : ComponentEntityType). passes (beside ids c.args.created.now c.args.set.now) (entity_tree (trees c.args.types.now.nodes) ty)) c.in-Module.is ∙
    module_passes c.args.types.now (beside ids c.args.created.now c.args.set.now) c.in-Module.field-0 (subst (EntityStands c.args.types.now) c.in-Module.is c.requires.stands))

pub need_entity-returns-in-Component-clause-needed : goal.need_entity-returns-in-Component-clause-needed
need_entity-returns-in-Component-clause-needed t c =
    needs_nothing c.args.types.now (λ ids. passes (beside ids c.args.created.now c.args.set.now) (entity_tree (trees c.args.types.now.nodes) c.args.ty)) c.args.needed.now c.requires.needed
    (λ ids. ap (λ (ty : ComponentEntityType). passes (beside ids c.args.created.now c.args.set.now) (entity_tree (trees c.args.types.now.nodes) ty)) c.in-Component.is ∙
    component_passes c.args.types.now (beside ids c.args.created.now c.args.set.now) c.in-Component.field-0 (subst (EntityStands c.args.types.now) c.in-Component.is c.requires.stands))

pub need_entity-returns-in-Instance-clause-seen : goal.need_entity-returns-in-Instance-clause-seen
need_entity-returns-in-Instance-clause-seen t c =
    on_ok_weaker c.need_instance.result
    (λ w. seen_kept c.args.types.now c.args.created.now c.args.set.now (λ ids. passes (beside ids c.args.created.now c.args.set.now) (tree_at c.args.types.now (part.Instance c.in-Instance.id)))
    c.args.needed.now c.need_instance.new.needed c.args.seen.now w c.requires.seen)
    c.need_instance.ensures.needed

-- ## Exports

pub need_each-loop-entry-init : goal.need_each-loop-entry-init
need_each-loop-entry-init t c = (
  none_gone c.args.types.now c.args.set.now c.args.exports.now c.args.created.now c.args.needed.now c.requires.created c.requires.needed,
  c.requires.known,
  none_seen c.args.types.now c.args.created.now c.args.set.now c.args.needed.now c.args.seen.now c.requires.seen,
)

pub need_each-need_entity-requires : goal.need_each-need_entity-requires
need_each-need_entity-requires t c =
    let r = entry_rank c.args.exports.now c.loop-entry.entry-index c.entry-item.result c.loop-entry-test.true c.entry-item.is in
    let stands : EntityStands c.args.types.now c.entry-item.result.1.ty = search rules in
    (omega (arith, r, c.decreases), (stands, (c.requires.set, (c.loop-entry.invariant.0.created, (c.loop-entry.invariant.1, (c.loop-entry.invariant.0.left.stand, c.loop-entry.invariant.2))))))

pub need_each-loop-entry-preserved : goal.need_each-loop-entry-preserved
need_each-loop-entry-preserved t c =
    let stands : EntityStands c.args.types.now c.entry-item.result.1.ty = search rules in (
      one_gone c.args.types.now c.args.set.now c.args.exports.now c.loop-entry.entry-index c.entry-item.result c.loop-entry.created c.push_created.new.set c.loop-entry.needed c.need_entity.new.needed c.loop-entry-test.true c.entry-item.is stands
          c.loop-entry.invariant.0 c.in_ok-need_entity.ensures.needed c.in_ok-push_created.ensures,
      c.in_ok-need_entity.ensures.known,
      seen_beside c.args.types.now c.loop-entry.created c.args.set.now c.need_entity.new.needed c.need_entity.new.seen c.entry-item.result.1.ty c.push_created.new.set c.in_ok-push_created.ensures stands c.in_ok-need_entity.ensures.seen,
    )

pub need_each-returns-clause-needed : goal.need_each-returns-clause-needed
need_each-returns-clause-needed t c =
    all_gone c.args.types.now c.args.set.now c.args.exports.now c.loop-entry.entry-index c.loop-entry.created c.loop-entry.needed c.loop-entry-test.false c.loop-entry.invariant.0

-- ## An instance type

pub need_instance-need_all-requires-clause-more : goal.need_instance-need_all-requires-clause-more
need_instance-need_all-requires-clause-more t c =
    let w = known_needs c.args.types.now c.args.set.now c.args.known.now c.args.id.index c.in-Some.more.now c.requires.known (sym c.get.ensures ∙ ap option_copied c.in-Some.is) in
    w.stand

pub need_instance-returns-in-Some-clause-needed : goal.need_instance-returns-in-Some-clause-needed
need_instance-returns-in-Some-clause-needed t c =
    on_ok_weaker c.need_all.result
    (needs_more c.args.types.now c.args.set.now (tree_at c.args.types.now (part.Instance c.args.id)) c.args.created.now c.in-Some.more.now c.args.needed.now c.need_all.new.needed
    (known_needs c.args.types.now c.args.set.now c.args.known.now c.args.id.index c.in-Some.more.now c.requires.known (sym c.get.ensures ∙ ap option_copied c.in-Some.is)))
    c.need_all.ensures

pub need_instance-needs_of_exports-requires : goal.need_instance-needs_of_exports-requires
need_instance-needs_of_exports-requires t c =
    let w = entries_ready c.args.types.now c.args.id.index export c.get-2.result.now.exports c.as_slice.result.now c.as_slice.ensures c.get-2.ensures.before in
    (omega (arith, w.0, c.decreases), (w.1, (c.requires.set, c.requires.known)))

pub need_instance-need_all-requires-2-clause-more : goal.need_instance-need_all-requires-2-clause-more
need_instance-need_all-requires-2-clause-more t c = c.in_ok-more.ensures.needed.stand

pub need_instance-returns-clause-needed : goal.need_instance-returns-clause-needed
need_instance-returns-clause-needed t c =
    on_ok_weaker c.put.result
    (λ w. needs_more c.args.types.now c.args.set.now (tree_at c.args.types.now (part.Instance c.args.id)) c.args.created.now c.in_ok-more.more c.args.needed.now c.need_all-2.new.needed
    (instance_needs c.args.types.now c.args.set.now c.args.id c.get-2.result.now c.as_slice.result.now c.in_ok-more.more c.get-2.ensures.unfolds c.as_slice.ensures c.in_ok-more.ensures.needed)
    c.in_ok-need_all.ensures)
    c.put.ensures.ok

pub need_instance-returns-clause-known : goal.need_instance-returns-clause-known
need_instance-returns-clause-known t c =
    on_ok_weaker c.put.result
    (λ w. subst (AllNeeded c.args.types.now c.args.set.now) (sym w)
    (known_put c.args.types.now c.args.set.now c.needs_of_exports.new.known c.args.id.index c.in_ok-more.more c.in_ok-more.ensures.known
    (instance_needs c.args.types.now c.args.set.now c.args.id c.get-2.result.now c.as_slice.result.now c.in_ok-more.more c.get-2.ensures.unfolds c.as_slice.ensures c.in_ok-more.ensures.needed)))
    c.put.ensures.ok

-- ## Types

pub need_type-returns-in-Component-clause-needed : goal.need_type-returns-in-Component-clause-needed
need_type-returns-in-Component-clause-needed t c =
    needs_nothing c.args.types.now (λ ids. passes (beside ids c.args.created.now c.args.set.now) (tree_at c.args.types.now (any_part c.args.id))) c.args.needed.now c.requires.needed
    (λ ids. ap (λ (id : ComponentAnyTypeId). passes (beside ids c.args.created.now c.args.set.now) (tree_at c.args.types.now (any_part id))) c.in-Component.is ∙
    component_passes c.args.types.now (beside ids c.args.created.now c.args.set.now) c.in-Component.field-0 (subst (λ (id : ComponentAnyTypeId). Stands c.args.types.now (any_part id)) c.in-Component.is c.requires.id))

pub need_type-returns-in-Resource-clause-needed : goal.need_type-returns-in-Resource-clause-needed
need_type-returns-in-Resource-clause-needed t c =
    needs_nothing c.args.types.now (λ ids. passes (beside ids c.args.created.now c.args.set.now) (tree_at c.args.types.now (any_part c.args.id))) c.args.needed.now c.requires.needed
    (λ ids. ap (λ (id : ComponentAnyTypeId). passes (beside ids c.args.created.now c.args.set.now) (tree_at c.args.types.now (any_part id))) c.in-Resource.is)

pub need_type-returns-in-Defined-clause-needed : goal.need_type-returns-in-Defined-clause-needed
need_type-returns-in-Defined-clause-needed t c =
    on_ok_weaker c.need_defined.result
    (needs_as c.args.types.now (λ ids. are_named (beside ids c.args.created.now c.args.set.now) (slot_parts (trees c.args.types.now.nodes) (slots_of (n.Defined c.get.result.now))))
    (λ ids. passes (beside ids c.args.created.now c.args.set.now) (tree_at c.args.types.now (any_part c.args.id))) c.args.needed.now c.need_defined.new.needed
    (λ ids. sym (ap (λ (id : ComponentAnyTypeId). passes (beside ids c.args.created.now c.args.set.now) (tree_at c.args.types.now (any_part id))) c.in-Defined.is ∙ ap (passes (beside ids c.args.created.now c.args.set.now)) c.get.ensures.unfolds)))
    c.need_defined.ensures.needed

pub need_type-returns-in-Func-clause-needed : goal.need_type-returns-in-Func-clause-needed
need_type-returns-in-Func-clause-needed t c =
    on_ok_weaker c.need_func.result
    (needs_as c.args.types.now (λ ids. are_named (beside ids c.args.created.now c.args.set.now) (slot_parts (trees c.args.types.now.nodes) (slots_of (n.Func c.get-in-Func.result.now))))
    (λ ids. passes (beside ids c.args.created.now c.args.set.now) (tree_at c.args.types.now (any_part c.args.id))) c.args.needed.now c.need_func.new.needed
    (λ ids. sym (ap (λ (id : ComponentAnyTypeId). passes (beside ids c.args.created.now c.args.set.now) (tree_at c.args.types.now (any_part id))) c.in-Func.is ∙ ap (passes (beside ids c.args.created.now c.args.set.now)) c.get-in-Func.ensures.unfolds)))
    c.need_func.ensures.needed

pub need_type-returns-in-Instance-clause-seen : goal.need_type-returns-in-Instance-clause-seen
need_type-returns-in-Instance-clause-seen t c =
    on_ok_weaker c.need_instance.result
    (λ w. seen_kept c.args.types.now c.args.created.now c.args.set.now (λ ids. passes (beside ids c.args.created.now c.args.set.now) (tree_at c.args.types.now (part.Instance c.in-Instance.id)))
    c.args.needed.now c.need_instance.new.needed c.args.seen.now w c.requires.seen)
    c.need_instance.ensures.needed
