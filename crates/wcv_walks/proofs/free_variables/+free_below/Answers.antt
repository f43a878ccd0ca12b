use Rattle.std.proofs.Common.{rules, arith, ◌≡◌, ◌<◌, ◌≤◌, ℕ, List, [], length, take_all, sym, ◌∙◌, ap, subst, false}
use Rattle.std.proofs.lemmas.Result.{on_ok_weaker}
use Rattle.wcv_core.specs.Names.{Name}
use Rattle.wcv_types.specs.Gathering.{Gains, FreeInSome, AllGathered, AllKnown}
use Rattle.wcv_types.specs.Resources.{Free, mentions}
use Rattle.wcv_types.specs.Unfold.{Type_tree, rank, parts_at, tree_at}
use Rattle.wcv_types.specs.declared.ids.Part.{Part}
use Rattle.wcv_types.specs.declared.ids.Part.TheVariants as p
use Rattle.wcv_types.specs.declared.ids.ResourceId.{ResourceId}
use Rattle.wcv_types.proofs.Gaining.{gains_held, gains_nothing}
use Rattle.wcv_types.proofs.Gathered.{seen_gathered, gathered_kept, gathered_push, closed, node_tree, no_reference, owns_nothing, gains_node, gains_scope, gains_next, Outside, known_put, rank_within, parts_ready}
use Rattle.wcv_types.proofs.Grown.{stands_rank}
use Rattle.wcv_walks.proofs.free_variables.+free_below.Goals as goal

-- ## A type

pub free_in_part-returns-in-None-clause-gathered : goal.free_in_part-returns-in-None-clause-gathered
free_in_part-returns-in-None-clause-gathered t c =
    on_ok_weaker c.free_in_leaf.result (λ g. gathered_kept c.args.types.now c.args.seen.now c.args.free.now c.free_in_leaf.new.free c.requires.gathered g.keeps) c.free_in_leaf.ensures.ok

pub free_in_part-refers-requires : goal.free_in_part-refers-requires
free_in_part-refers-requires t c = omega (arith, c.in-Some.ensures, stands_rank c.args.types.now c.args.part c.requires.stands)

pub free_in_part-returns-then-not-refers-clause-ok : goal.free_in_part-returns-then-not-refers-clause-ok
free_in_part-returns-then-not-refers-clause-ok t c =
    let none : mentions (tree_at c.args.types.now c.args.part) ≡ false =
    ap (λ (x : Type_tree). mentions x) (node_tree c.args.types.now c.args.part c.in-Some.place c.in-Some.ensures) ∙ sym c.refers.ensures ∙ c.if-not-refers.true in
    gains_nothing (λ (r : Name). Free r (tree_at c.args.types.now c.args.part)) c.args.free.now (λ r f. closed (tree_at c.args.types.now c.args.part) r none f)

pub free_in_part-returns-then-contains-clause-ok : goal.free_in_part-returns-then-contains-clause-ok
free_in_part-returns-then-contains-clause-ok t c =
    gains_held (λ (r : Name). Free r (tree_at c.args.types.now c.args.part)) c.args.free.now
    (λ r f. seen_gathered c.args.types.now c.args.seen.now c.args.free.now c.in-Some.place c.requires.gathered (sym c.contains.ensures ∙ c.if-contains.true) r
    (subst (Free r) (node_tree c.args.types.now c.args.part c.in-Some.place c.in-Some.ensures) f))

pub free_in_part-returns-clause-gathered : goal.free_in_part-returns-clause-gathered
free_in_part-returns-clause-gathered t c =
    on_ok_weaker c.push.result
    (λ w. subst (λ (ks : List ℕ). AllGathered c.args.types.now ks c.free_in_node.new.free) (sym w)
    (gathered_push c.args.types.now c.free_in_node.new.seen c.free_in_node.new.free c.in-Some.place c.in_ok-free_in_node.ensures.gathered
    (λ r f. c.in_ok-free_in_node.ensures.ok.all r (subst (Free r) (sym (node_tree c.args.types.now c.args.part c.in-Some.place c.in-Some.ensures)) f))))
    c.push.ensures.ok

-- ## A node

pub free_in_node-returns-in-Instance-clause-gathered : goal.free_in_node-returns-in-Instance-clause-gathered
free_in_node-returns-in-Instance-clause-gathered t c =
    on_ok_weaker c.free_in_scope.result (λ g. gathered_kept c.args.types.now c.args.seen.now c.args.free.now c.free_in_scope.new.free c.requires.gathered g.keeps) c.free_in_scope.ensures.ok

pub free_in_node-free_in_list-requires : goal.free_in_node-free_in_list-requires
free_in_node-free_in_list-requires t c =
    let some : 0 < rank c.args.part = omega (arith, c.requires.place) in
    let w =
    parts_ready c.args.types.now (rank c.args.part) (parts_at c.args.types.now c.args.part) c.as_slice.result.now (c.as_slice.ensures ∙ c.in_ok-parts-in_default.ensures.parts) c.parts_of.ensures.unfolds.before some in
    (omega (arith, w.0, c.decreases), (w.1, (c.requires.known, c.requires.gathered)))

pub free_in_node-returns-in_ok-parts-in_default : goal.free_in_node-returns-in_ok-parts-in_default
free_in_node-returns-in_ok-parts-in_default t c =
    let some : 0 < rank c.args.part = omega (arith, c.requires.place) in
    record {
      ok = on_ok_weaker c.free_in_list.result
          (λ g. gains_node c.args.types.now c.args.part c.args.free.now c.free_in_list.new.free c.parts_of.ensures.unfolds (λ r. no_reference c.args.types.now c.args.part r some c.requires.stands)
          (λ r. owns_nothing c.args.types.now c.args.part r c.requires.stands c.in_default.not-Instance c.in_default.not-Component)
          (subst (λ (qs : List Part). Gains (λ r. FreeInSome c.args.types.now r qs) c.args.free.now c.free_in_list.new.free) (c.as_slice.ensures ∙ c.in_ok-parts-in_default.ensures.parts) g))
          c.free_in_list.ensures.ok;
      known = c.free_in_list.ensures.known;
      gathered = c.free_in_list.ensures.gathered;
      err = c.free_in_list.ensures.err;
    }

-- ## A node that may own resources

pub free_in_owner-free_within-requires : goal.free_in_owner-free_within-requires
free_in_owner-free_within-requires t c =
    let w = parts_ready c.args.types.now (rank c.args.part) (parts_at c.args.types.now c.args.part) c.as_slice.result.now (c.as_slice.ensures ∙ c.in_ok-parts.ensures.parts) c.parts_of.ensures.unfolds.before c.requires.node in
    (omega (arith, w.0, c.decreases), (w.1, c.requires.known))

pub free_in_owner-returns-clause-ok : goal.free_in_owner-returns-clause-ok
free_in_owner-returns-clause-ok t c =
    gains_scope c.args.types.now c.args.part c.in_ok-inside.inside [] c.free_outside.new.free c.parts_of.ensures.unfolds (λ r. no_reference c.args.types.now c.args.part r c.requires.node c.requires.stands)
    (subst (λ (qs : List Part). Gains (λ r. FreeInSome c.args.types.now r qs) [] c.in_ok-inside.inside) (c.as_slice.ensures ∙ c.in_ok-parts.ensures.parts) c.in_ok-inside.ensures.ok)
    (subst (λ (rs : List ResourceId). Gains (Outside c.args.types.now c.args.part c.in_ok-inside.inside) rs c.free_outside.new.free) c.new-outside.ensures c.in_ok-free_outside.ensures.ok)

pub free_in_scope-returns-clause-known : goal.free_in_scope-returns-clause-known
free_in_scope-returns-clause-known t c =
    on_ok_weaker c.put.result
    (λ w. subst (AllKnown c.args.types.now) (sym w)
    (known_put c.args.types.now c.free_in_owner.new.known c.args.place c.in_ok-outside.outside c.in_ok-outside.ensures.known
    (subst (λ (x : Type_tree). Gains (λ r. Free r x) [] c.in_ok-outside.outside) (node_tree c.args.types.now c.args.part c.args.place c.requires.place) c.in_ok-outside.ensures.ok)))
    c.put.ensures.ok

-- ## Lists

pub free_in_list-free_in_part-requires : goal.free_in_list-free_in_part-requires
free_in_list-free_in_part-requires t c =
    let w : c.loop-part.part-index < length c.args.parts.now = search rules in
    (omega (arith, rank_within c.args.parts.now c.loop-part.part-index (p.Defined (record { index = 0 })) w, c.decreases), (c.requires.stand c.loop-part.part-index (p.Defined (record { index = 0 })) w, (c.loop-part.invariant.known, c.loop-part.invariant.gathered)))

pub free_in_list-loop-part-preserved : goal.free_in_list-loop-part-preserved
free_in_list-loop-part-preserved t c =
    let w : c.loop-part.part-index < length c.args.parts.now = search rules in
    record {
      gains = gains_next c.args.types.now c.args.parts.now c.loop-part.part-index (p.Defined (record { index = 0 })) c.args.free.now c.loop-part.free c.free_in_part.new.free w c.loop-part.invariant.gains c.in_ok-free_in_part.ensures.ok;
      known = c.in_ok-free_in_part.ensures.known;
      gathered = c.in_ok-free_in_part.ensures.gathered;
    }

pub free_in_list-returns-clause-ok : goal.free_in_list-returns-clause-ok
free_in_list-returns-clause-ok t c =
    let w : length c.args.parts.now ≤ c.loop-part.part-index = search rules in
    subst (λ (qs : List Part). Gains (λ r. FreeInSome c.args.types.now r qs) c.args.free.now c.loop-part.free) (take_all c.loop-part.part-index c.args.parts.now w) c.loop-part.invariant.gains
