use Rattle.std.proofs.Common.{◌≡◌, List, [], ◌∷◌, ◌++◌, refl, sym, ◌∙◌, ap, subst, arith, append-nil, append_assoc}
use Rattle.std.proofs.lemmas.Result.{on_ok_weaker}
use Rattle.wcv_types.proofs.Unfolding.{sort_stands}
use Rattle.wcv_types.specs.Arena.{Arena}
use Rattle.wcv_types.specs.Entities.{entity_tree, EntityStands}
use Rattle.wcv_types.specs.Identity.{Identity}
use Rattle.wcv_types.specs.Standing.{identity_of, Stands}
use Rattle.wcv_types.specs.Tree.{is_type, sort}
use Rattle.wcv_types.specs.Unfold.{any_part, tree_at, trees, Type_tree}
use Rattle.wcv_types.specs.declared.ids.Part.TheVariants as p
use Rattle.wcv_types.specs.declared.item_map.ComponentItem.{ComponentItem}
use Rattle.wcv_types.specs.declared.shapes.ComponentEntityType.{ComponentEntityType}
use Rattle.wcv_matching.specs.GivenTypes.{given_by}
use Rattle.wcv_matching.specs.Matching.{named_exports}
use Rattle.wcv_matching.proofs.ByName.{is_there}
use Rattle.wcv_matching.proofs.Entries.{entry_within}
use Rattle.wcv_subtype.specs.Openings.{given_under, Gives}
use Rattle.wcv_atoms.proofs.Extents.{entries_next, instance_extent}
use Rattle.wcv_subtype.proofs.CreatedExtents.{created_counts}
use Rattle.wcv_subtype.proofs.GivenLists.{all_given, creates_none, export_lower, export_next, export_there, gives_as, nothing_given, nothing_under, of_type, only_types, passes_export, passes_sort}
use Rattle.wcv_atoms.proofs.PassIds.{instance_stands}
use Rattle.wcv_subtype.proofs.giving.+giving.Goals as goal

-- ## A type

pub give-unreachable-requires : goal.give-unreachable-requires
give-unreachable-requires g t c =
    let a = c.args.types.now in
    let s = passes_sort a.core (entity_tree (trees a.nodes) c.args.argument) (entity_tree (trees a.nodes) c.args.import) is_type (ap (λ (x : ComponentEntityType). sort (entity_tree (trees a.nodes) x)) c.in-Ty.is) c.requires.passes in
    only_types a c.args.argument c.requires.argument s c.in_default-argument.not-Ty

pub give-returns-in-Ty-argument-clause-given : goal.give-returns-in-Ty-argument-clause-given
give-returns-in-Ty-argument-clause-given g t c =
    let a = c.args.types.now in
    let old = c.in-Ty.old in
    let new = c.in-Ty-argument.new in
    let h : Stands a (any_part old) = (subst (EntityStands a) c.in-Ty.is c.requires.import).0 in
    let k : Stands a (any_part new) = (subst (EntityStands a) c.in-Ty-argument.is c.requires.argument).0 in
    let e : (identity_of (any_part old), tree_at a (any_part new)) ∷ [] ≡ given_by (entity_tree (trees a.nodes) c.args.argument) (entity_tree (trees a.nodes) c.args.import) =
    sym ((λ j. given_by (entity_tree (trees a.nodes) (c.in-Ty-argument.is j)) (entity_tree (trees a.nodes) (c.in-Ty.is j))) ∙ of_type a old new c.in-Ty.referenced c.in-Ty-argument.referenced h) in
    on_ok_weaker {P = (b : Arena) (gs : List (Identity × Type_tree)) → Stands b (any_part old) → Stands b (any_part new) → Gives b gs c.args.map.now → Gives b (gs ++ (identity_of (any_part old), tree_at b (any_part new)) ∷ []) c.give_type.new.map} c.give_type.result
    (λ w gs g. gives_as a c.give_type.new.map (gs ++ (identity_of (any_part old), tree_at a (any_part new)) ∷ []) (gs ++ given_by (entity_tree (trees a.nodes) c.args.argument) (entity_tree (trees a.nodes) c.args.import)) (ap (λ (ws : List (Identity × Type_tree)). gs ++ ws) e) (w a gs h k g))
    c.give_type.ensures.given

pub give-returns-in_default : goal.give-returns-in_default
give-returns-in_default g t c = record {
  seen = c.requires.seen;
  resources = refl;
  given = λ gs g. gives_as c.args.types.now c.args.map.now gs (gs ++ given_by (entity_tree (trees c.args.types.now.nodes) c.args.argument) (entity_tree (trees c.args.types.now.nodes) c.args.import))
      (sym (append-nil gs) ∙ ap (λ (ws : List (Identity × Type_tree)). gs ++ ws) (sym (nothing_given c.args.types.now c.args.import (entity_tree (trees c.args.types.now.nodes) c.args.argument) c.requires.import (creates_none c.args.import c.in_default.not-Ty c.in_default.not-Instance)))) g;
  counted = omega arith;
  fewer = λ h. omega (arith, created_counts c.args.types.now c.args.import c.requires.import h);
}

-- ## One export

pub give_export-returns-then-not-may_create-clause-given : goal.give_export-returns-then-not-may_create-clause-given
give_export-returns-then-not-may_create-clause-given g t c = λ gs g.
    let a = c.args.types.now in
    let x = c.args.export.now in
    let es = named_exports (entity_tree (trees a.nodes) c.args.argument) in
    gives_as a c.args.map.now gs (gs ++ given_under es x.0 (entity_tree (trees a.nodes) x.1.ty))
    (sym (append-nil gs) ∙ ap (λ (ws : List (Identity × Type_tree)). gs ++ ws) (sym (nothing_under a x.1.ty es x.0 c.requires.export (sym c.may_create.ensures ∙ c.if-not-may_create.true)))) g

-- ## Exports

pub give_exports-loop-k-init : goal.give_exports-loop-k-init
give_exports-loop-k-init g t c = record { seen = c.requires.seen; resources = refl; given = λ gs g. gives_as c.args.types.now c.args.map.now gs (gs ++ []) (sym (append-nil gs)) g; counted = omega (arith, c.visited.ensures.counted) }

pub give_exports-give_export-requires : goal.give_exports-give_export-requires
give_exports-give_export-requires g t c κs inside =
    let a = c.args.types.now in
    let y = c.in-Some.entry.now in
    let at = sym c.in-Some.ensures in
    let l = export_lower a c.args.import.index c.visited.result.now _ c.visited.ensures.unfolds c.loop-k.k y at in (
      omega (arith, l, c.decreases),
      (
        inside,
        (
          c.loop-k.invariant.seen,
          (
            c.requires.argument,
            (
              entry_within (λ (w : ComponentItem). EntityStands a w.ty) c.visited.result.now.exports c.loop-k.k y (instance_stands a c.args.import.index c.visited.result.now c.visited.ensures.before) c.in-Some.ensures,
              λ x e. passes_export a.core (entity_tree (trees a.nodes) c.args.argument) (tree_at a (p.Instance c.args.import)) (sort_stands a (p.Instance c.args.import) c.requires.import) c.requires.passes y.0 (entity_tree (trees a.nodes) y.1.ty)
                  (export_there a c.args.import.index c.visited.result.now _ c.visited.ensures.unfolds c.loop-k.k y at) x e,
            ),
          ),
        ),
      ),
    )

pub give_exports-loop-k-preserved : goal.give_exports-loop-k-preserved
give_exports-loop-k-preserved g t c = record {
  seen = c.in_ok-give_export-in-Some.ensures.seen;
  resources = c.in_ok-give_export-in-Some.ensures.resources ∙ c.loop-k.invariant.resources;
  given = λ gs g. gives_as c.args.types.now c.give_export.new.map _ _
      (append_assoc gs _ _ ∙ ap (λ (ws : List (Identity × Type_tree)). gs ++ ws) (export_next c.args.types.now c.args.import.index c.visited.result.now _ c.visited.ensures.unfolds c.loop-k.k c.in-Some.entry.now (sym c.in-Some.ensures) (entity_tree (trees c.args.types.now.nodes) c.args.argument)))
      (c.in_ok-give_export-in-Some.ensures.given _ (c.loop-k.invariant.given gs g));
  counted = omega (arith, entries_next (trees c.args.types.now.nodes) c.visited.result.now.exports c.loop-k.k c.in-Some.entry.now (sym c.in-Some.ensures), c.in_ok-give_export-in-Some.ensures.counted, c.loop-k.invariant.counted);
}

pub give_exports-unreachable-requires : goal.give_exports-unreachable-requires
give_exports-unreachable-requires g t c = is_there c.visited.result.now.exports c.loop-k.k (omega arith) c.in-None.ensures

pub give_exports-returns-clause-given : goal.give_exports-returns-clause-given
give_exports-returns-clause-given g t c = λ gs g.
    gives_as c.args.types.now c.loop-k.map _ _
    (ap (λ (ws : List (Identity × Type_tree)). gs ++ ws) (all_given c.args.types.now c.args.import.index c.visited.result.now _ c.visited.ensures.unfolds (entity_tree (trees c.args.types.now.nodes) c.args.argument) c.loop-k.k (omega arith)))
    (c.loop-k.invariant.given gs g)

-- ## Steps

pub give-returns-in-Ty-argument-clause-fewer : goal.give-returns-in-Ty-argument-clause-fewer
give-returns-in-Ty-argument-clause-fewer g t c h = omega (arith, created_counts c.args.types.now c.args.import c.requires.import h)

pub give_exports-returns-clause-counted : goal.give_exports-returns-clause-counted
give_exports-returns-clause-counted g t c = omega (arith, instance_extent c.args.types.now c.args.import.index c.visited.result.now _ c.visited.ensures.unfolds, c.loop-k.invariant.counted)

pub give_export-returns-in-Some-clause-counted : goal.give_export-returns-in-Some-clause-counted
give_export-returns-in-Some-clause-counted g t c = omega (arith, c.give.ensures.fewer (sym c.may_create.ensures ∙ c.if-not-may_create.false), c.in_ok-found.ensures.counted)

pub give_export-returns-in-None-clause-counted : goal.give_export-returns-in-None-clause-counted
give_export-returns-in-None-clause-counted g t c = omega (arith, created_counts c.args.types.now c.args.export.now.1.ty c.requires.export (sym c.may_create.ensures ∙ c.if-not-may_create.false), c.in_ok-found.ensures.counted)

pub give_export-returns-in_err-found-clause-counted : goal.give_export-returns-in_err-found-clause-counted
give_export-returns-in_err-found-clause-counted g t c =
    omega (arith, created_counts c.args.types.now c.args.export.now.1.ty c.requires.export (sym c.may_create.ensures ∙ c.if-not-may_create.false), c.in_err-found.ensures.counted)

pub give_exports-returns-in_err-give_export-in-Some-clause-counted : goal.give_exports-returns-in_err-give_export-in-Some-clause-counted
give_exports-returns-in_err-give_export-in-Some-clause-counted g t c =
    let x = instance_extent c.args.types.now c.args.import.index c.visited.result.now _ c.visited.ensures.unfolds in
    let n = entries_next (trees c.args.types.now.nodes) c.visited.result.now.exports c.loop-k.k c.in-Some.entry.now (sym c.in-Some.ensures) in
    omega (arith, x, n, c.in_err-give_export-in-Some.ensures.counted, c.loop-k.invariant.counted)
