use Rattle.std.proofs.Common.{◌≡◌, ◌+◌, ℕ, List, sym, ◌∙◌, ap, Some, None, arith, refl, subst}
use Rattle.std.proofs.lemmas.Result.{on_ok_weaker}
use Rattle.wcv_types.specs.Named.{is_in, is_named, are_named}
use Rattle.wcv_types.specs.NamedBySet.{handle_of}
use Rattle.wcv_walks.specs.Needing.{beside, AllSeen}
use Rattle.wcv_types.specs.Entities.{SlotStands}
use Rattle.wcv_types.specs.Standing.{Stands, identity_of}
use Rattle.wcv_types.specs.Unfold.{option_slot, parts_of, slot_parts, slot_tree, slots_of, tree_in, trees}
use Rattle.wcv_types.specs.declared.arena.Node.TheVariants as n
use Rattle.wcv_types.specs.declared.ids.ComponentAnyTypeId.TheVariants as any
use Rattle.wcv_types.specs.declared.ids.Part.TheVariants as p
use Rattle.wcv_types.specs.declared.shapes.ComponentValType.TheVariants as v
use Rattle.wcv_types.proofs.Gathered.{parts_ready}
use Rattle.wcv_types.proofs.NamedBySet.{value_rank, named_from, named_next, named_all, handle_all, is_node}
use Rattle.wcv_walks.proofs.Needing.{unnamed_needs, needs_as, all_left_to_do, one_done, none_left, seen_needs, seen_kept, seen_push}
use Rattle.wcv_types.proofs.NeedingValues.{made_of_values, handle_named, value_stands, value_itself, value_made, value_within}
use Rattle.wcv_walks.proofs.needs.+needing_values.Goals as goal

-- ## A value type

pub need_value-returns-then-names_itself : goal.need_value-returns-then-names_itself
need_value-returns-then-names_itself t c =
    let is : c.args.ty ≡ Some (v.Ty c.in-Some.id) = is_node c.args.ty c.in-Some.id (sym c.node_of.ensures ∙ c.in-Some.is) in
    let stands : Stands c.args.types.now (p.Defined c.in-Some.id) = subst (λ ty. SlotStands c.args.types.now (option_slot ty)) is c.requires.value in
    let needs = unnamed_needs c.args.types.now (any.Defined c.in-Some.id) c.args.created.now c.args.needed.now stands c.requires.created c.requires.needed c.args.set.now c.need.new.needed c.requires.set in record {
      needed = on_ok_weaker c.need.result
          (λ w. needs_as c.args.types.now (λ ids. is_in (beside ids c.args.created.now c.args.set.now) (identity_of (p.Defined c.in-Some.id)))
          (λ ids. is_named (beside ids c.args.created.now c.args.set.now) (slot_tree (trees c.args.types.now.nodes) (option_slot c.args.ty))) c.args.needed.now c.need.new.needed
          (λ ids. value_itself c.args.types.now c.args.ty c.in-Some.id c.get-shape.result.now is c.get-shape.ensures.unfolds (sym c.names_itself.ensures ∙ c.if-names_itself.true) (beside ids c.args.created.now c.args.set.now))
          (needs w))
          c.need.ensures;
      seen = on_ok_weaker c.need.result
          (λ w. seen_kept c.args.types.now c.args.created.now c.args.set.now (λ ids. is_in (beside ids c.args.created.now c.args.set.now) (identity_of (p.Defined c.in-Some.id)))
          c.args.needed.now c.need.new.needed c.args.seen.now (needs w) c.requires.seen)
          c.need.ensures;
    }

pub need_value-returns-then-contains-clause-needed : goal.need_value-returns-then-contains-clause-needed
need_value-returns-then-contains-clause-needed t c =
    needs_as c.args.types.now (λ ids. is_named (beside ids c.args.created.now c.args.set.now) (tree_in (trees c.args.types.now.nodes) c.in-Some.id.index))
    (λ ids. is_named (beside ids c.args.created.now c.args.set.now) (slot_tree (trees c.args.types.now.nodes) (option_slot c.args.ty))) c.args.needed.now c.args.needed.now
    (λ ids. ap (λ ty. is_named (beside ids c.args.created.now c.args.set.now) (slot_tree (trees c.args.types.now.nodes) (option_slot ty))) (sym (is_node c.args.ty c.in-Some.id (sym c.node_of.ensures ∙ c.in-Some.is))))
    (seen_needs c.args.types.now c.args.created.now c.args.set.now c.args.needed.now c.args.seen.now c.in-Some.id.index c.requires.needed c.requires.seen (sym c.contains.ensures ∙ c.if-contains.true))

pub need_value-need_defined-requires : goal.need_value-need_defined-requires
need_value-need_defined-requires t c =
    let w = parts_ready c.args.types.now (value_rank (Some (v.Ty c.in-Some.id))) (parts_of (n.Defined c.get-shape.result.now)) (parts_of (n.Defined c.get-shape.result.now)) refl c.get-shape.ensures.before (omega arith) in
    let r : value_rank c.args.ty ≡ value_rank (Some (v.Ty c.in-Some.id)) = ap value_rank (is_node c.args.ty c.in-Some.id (sym c.node_of.ensures ∙ c.in-Some.is)) in
    (omega (arith, w.0, r, c.decreases), (w.1, (c.requires.set, (c.requires.created, (c.requires.needed, c.requires.seen)))))

pub need_value-returns : goal.need_value-returns
need_value-returns t c =
    let is : c.args.ty ≡ Some (v.Ty c.in-Some.id) = is_node c.args.ty c.in-Some.id (sym c.node_of.ensures ∙ c.in-Some.is) in
    let needs =
    needs_as c.args.types.now (λ ids. are_named (beside ids c.args.created.now c.args.set.now) (slot_parts (trees c.args.types.now.nodes) (slots_of (n.Defined c.get-shape.result.now))))
    (λ ids. is_named (beside ids c.args.created.now c.args.set.now) (slot_tree (trees c.args.types.now.nodes) (option_slot c.args.ty))) c.args.needed.now c.need_defined.new.needed
    (λ ids. value_made c.args.types.now c.args.ty c.in-Some.id c.get-shape.result.now is c.get-shape.ensures.unfolds (sym c.names_itself.ensures ∙ c.if-names_itself.false) (beside ids c.args.created.now c.args.set.now))
    c.in_ok-need_defined.ensures.needed in record {
      needed = on_ok_weaker c.push.result (λ w. needs) c.push.ensures.ok;
      seen = on_ok_weaker c.push.result
          (λ w. subst (λ (ks : List ℕ). AllSeen c.args.types.now c.args.created.now c.args.set.now c.need_defined.new.needed ks) (sym w)
          (seen_push c.args.types.now c.args.created.now c.args.set.now c.args.needed.now c.need_defined.new.needed c.need_defined.new.seen c.in-Some.id.index
          (needs_as c.args.types.now (λ ids. is_named (beside ids c.args.created.now c.args.set.now) (slot_tree (trees c.args.types.now.nodes) (option_slot c.args.ty)))
          (λ ids. is_named (beside ids c.args.created.now c.args.set.now) (tree_in (trees c.args.types.now.nodes) c.in-Some.id.index)) c.args.needed.now c.need_defined.new.needed
          (λ ids. ap (λ ty. is_named (beside ids c.args.created.now c.args.set.now) (slot_tree (trees c.args.types.now.nodes) (option_slot ty))) is) needs)
          c.in_ok-need_defined.ensures.seen))
          c.push.ensures.ok;
    }

-- ## A defined type

pub need_defined-returns-in-Some : goal.need_defined-returns-in-Some
need_defined-returns-in-Some t c =
    let of : handle_of c.args.shape.now ≡ Some c.in-Some.handle = sym c.handle.ensures ∙ c.in-Some.is in
    let stands = handle_all (Stands c.args.types.now) c.args.shape.now c.in-Some.handle c.requires.stands of in
    let needs = unnamed_needs c.args.types.now (any.Resource c.in-Some.handle) c.args.created.now c.args.needed.now stands c.requires.created c.requires.needed c.args.set.now c.need.new.needed c.requires.set in record {
      needed = on_ok_weaker c.need.result
          (λ w. needs_as c.args.types.now (λ ids. is_in (beside ids c.args.created.now c.args.set.now) (identity_of (p.Resource c.in-Some.handle)))
          (λ ids. are_named (beside ids c.args.created.now c.args.set.now) (slot_parts (trees c.args.types.now.nodes) (slots_of (n.Defined c.args.shape.now)))) c.args.needed.now c.need.new.needed
          (λ ids. handle_named (beside ids c.args.created.now c.args.set.now) (trees c.args.types.now.nodes) c.args.shape.now c.in-Some.handle of)
          (needs w))
          c.need.ensures;
      seen = on_ok_weaker c.need.result
          (λ w. seen_kept c.args.types.now c.args.created.now c.args.set.now (λ ids. is_in (beside ids c.args.created.now c.args.set.now) (identity_of (p.Resource c.in-Some.handle)))
          c.args.needed.now c.need.new.needed c.args.seen.now (needs w) c.requires.seen)
          c.need.ensures;
    }

pub need_defined-loop-k-init : goal.need_defined-loop-k-init
need_defined-loop-k-init t c =
    (all_left_to_do c.args.types.now (λ ids. named_from (beside ids c.args.created.now c.args.set.now) (trees c.args.types.now.nodes) c.args.shape.now 0) c.args.needed.now c.requires.needed, c.requires.seen)

pub need_defined-need_value-requires : goal.need_defined-need_value-requires
need_defined-need_value-requires t c =
    let none : handle_of c.args.shape.now ≡ None = sym c.handle.ensures ∙ c.in_default.is in
    let within = value_within c.args.types.now c.args.shape.now c.loop-k.k c.value_at.result c.requires.stands c.value_at.ensures in (
      omega (arith, within, c.decreases),
      (value_stands c.args.types.now c.args.shape.now c.loop-k.k c.value_at.result c.requires.stands none c.value_at.ensures, (c.requires.set, (c.requires.created, (c.loop-k.invariant.0.stand, c.loop-k.invariant.1)))),
    )

pub need_defined-loop-k-preserved : goal.need_defined-loop-k-preserved
need_defined-loop-k-preserved t c =
    let ts = trees c.args.types.now.nodes in (
      one_done c.args.types.now (λ ids. named_from (beside ids c.args.created.now c.args.set.now) ts c.args.shape.now 0) (λ ids. named_from (beside ids c.args.created.now c.args.set.now) ts c.args.shape.now c.loop-k.k)
          (λ ids. is_named (beside ids c.args.created.now c.args.set.now) (slot_tree ts (option_slot c.value_at.result))) (λ ids. named_from (beside ids c.args.created.now c.args.set.now) ts c.args.shape.now (c.loop-k.k + 1))
          c.args.needed.now c.loop-k.needed c.need_value.new.needed c.loop-k.invariant.0 c.in_ok-need_value.ensures.needed
          (λ ids. named_next (beside ids c.args.created.now c.args.set.now) ts c.args.shape.now c.loop-k.k c.value_at.result c.value_at.ensures),
      c.in_ok-need_value.ensures.seen,
    )

pub need_defined-returns-clause-needed : goal.need_defined-returns-clause-needed
need_defined-returns-clause-needed t c =
    let none : handle_of c.args.shape.now ≡ None = sym c.handle.ensures ∙ c.in_default.is in
    let ts = trees c.args.types.now.nodes in
    needs_as c.args.types.now (λ ids. named_from (beside ids c.args.created.now c.args.set.now) ts c.args.shape.now 0)
    (λ ids. are_named (beside ids c.args.created.now c.args.set.now) (slot_parts ts (slots_of (n.Defined c.args.shape.now)))) c.args.needed.now c.loop-k.needed
    (λ ids. ap (λ ss. are_named (beside ids c.args.created.now c.args.set.now) (slot_parts ts ss)) (sym (made_of_values c.args.shape.now none)))
    (none_left c.args.types.now (λ ids. named_from (beside ids c.args.created.now c.args.set.now) ts c.args.shape.now 0) (λ ids. named_from (beside ids c.args.created.now c.args.set.now) ts c.args.shape.now c.loop-k.k)
    c.args.needed.now c.loop-k.needed c.loop-k.invariant.0
    (λ ids. named_all (beside ids c.args.created.now c.args.set.now) ts c.args.shape.now c.loop-k.k (omega (arith, c.loop-k-test.false, c.value_count-k-end.ensures))))
