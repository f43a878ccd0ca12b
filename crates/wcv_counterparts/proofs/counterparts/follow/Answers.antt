use Rattle.std.proofs.Common.{arith, refl, sym, ◌∙◌, ap, subst, get_or, [], option_map}
use Rattle.std.specs.Prelude.{IfSome}
use Rattle.std.proofs.lemmas.Option.{slice_get_within}
use Rattle.wcv_types.specs.Entities.{entity_tree, EntityStands}
use Rattle.wcv_types.specs.Unfold.{trees}
use Rattle.wcv_types.specs.declared.item_map.ComponentItem.{ComponentItem}
use Rattle.wcv_atoms.specs.IdPasses.{named_trees}
use Rattle.wcv_matching.specs.Matching.{named_exports}
use Rattle.wcv_matching.proofs.Entries.{entry_within}
use Rattle.wcv_counterparts.proofs.Exporting.{follow_whole, goes_on, lands_as, no_name, no_place, no_more, path_at}
use Rattle.wcv_atoms.proofs.PassIds.{found_stands}
use Rattle.wcv_atoms.proofs.PassSteps.{found_tree, no_tree, no_tree_at, tree_at_place}
use Rattle.wcv_counterparts.proofs.counterparts.follow.Goals as goal

pub returns-in-None-get_index-clause-found : goal.returns-in-None-get_index-clause-found
returns-in-None-get_index-clause-found g c = sym (follow_whole c.args.path.now (named_trees (trees c.args.types.now.nodes) c.args.entries.now) (named_trees (trees c.args.types.now.nodes) c.args.others.now) ∙ no_place c.args.path.now 0 c.in-Some.first.now (sym c.in-Some.ensures.value) (named_trees (trees c.args.types.now.nodes) c.args.entries.now) (named_trees (trees c.args.types.now.nodes) c.args.others.now) (no_tree_at (trees c.args.types.now.nodes) c.args.entries.now c.in-Some.first.now (sym c.in-None-get_index.ensures)))

pub returns-in-None-get-clause-found : goal.returns-in-None-get-clause-found
returns-in-None-get-clause-found g c =
    let y = c.in-Some-get_index.entry.now in
    sym (follow_whole c.args.path.now (named_trees (trees c.args.types.now.nodes) c.args.entries.now) (named_trees (trees c.args.types.now.nodes) c.args.others.now) ∙ no_name c.args.path.now 0 c.in-Some.first.now (sym c.in-Some.ensures.value) (named_trees (trees c.args.types.now.nodes) c.args.entries.now) (named_trees (trees c.args.types.now.nodes) c.args.others.now) (y.0, entity_tree (trees c.args.types.now.nodes) y.1.ty) (tree_at_place (trees c.args.types.now.nodes) c.args.entries.now c.in-Some.first.now y (sym c.in-Some-get_index.ensures))
    (no_tree (trees c.args.types.now.nodes) c.args.others.now y.0 (sym c.in-None-get.ensures)))

pub loop-k-init : goal.loop-k-init
loop-k-init g c =
    let y = c.in-Some-get_index.entry.now in
    record {
      maps = c.requires.maps;
      here_stands = entry_within (λ (w : ComponentItem). EntityStands c.args.types.now w.ty) c.args.entries.now c.in-Some.first.now y c.requires.entries c.in-Some-get_index.ensures;
      there_stands = found_stands c.args.types.now c.args.others.now y.0 c.in-Some-get.item.now c.requires.others (sym c.in-Some-get.ensures);
      left = follow_whole c.args.path.now (named_trees (trees c.args.types.now.nodes) c.args.entries.now) (named_trees (trees c.args.types.now.nodes) c.args.others.now) ∙ goes_on c.args.path.now 0 c.in-Some.first.now (sym c.in-Some.ensures.value) (named_trees (trees c.args.types.now.nodes) c.args.entries.now) (named_trees (trees c.args.types.now.nodes) c.args.others.now) (y.0, entity_tree (trees c.args.types.now.nodes) y.1.ty) (entity_tree (trees c.args.types.now.nodes) c.in-Some-get.item.now.ty) (tree_at_place (trees c.args.types.now.nodes) c.args.entries.now c.in-Some.first.now y (sym c.in-Some-get_index.ensures))
          (found_tree (trees c.args.types.now.nodes) c.args.others.now y.0 c.in-Some-get.item.now (sym c.in-Some-get.ensures));
      within = omega (arith, slice_get_within c.args.path.now 0 c.in-Some.first.now (sym c.in-Some.ensures.value));
      counted = omega arith;
    }

pub returns-in-None-get_index-2-clause-found : goal.returns-in-None-get_index-2-clause-found
returns-in-None-get_index-2-clause-found g c =
    let es = named_trees (trees c.args.types.now.nodes) c.in-Some-exports_of.exports.now in
    let k = get_or c.args.path.now c.loop-k.k 0 in
    sym (c.loop-k.invariant.left ∙ lands_as c.args.path.now c.loop-k.k k (path_at c.args.path.now c.loop-k.k (omega arith)) es (named_exports (entity_tree (trees c.args.types.now.nodes) c.loop-k.there)) (entity_tree (trees c.args.types.now.nodes) c.loop-k.here) (entity_tree (trees c.args.types.now.nodes) c.loop-k.there) c.in-Some-exports_of.ensures.exports refl ∙
    no_place c.args.path.now c.loop-k.k k (path_at c.args.path.now c.loop-k.k (omega arith)) es (named_exports (entity_tree (trees c.args.types.now.nodes) c.loop-k.there)) (no_tree_at (trees c.args.types.now.nodes) c.in-Some-exports_of.exports.now k (sym c.in-None-get_index-2.ensures)))

pub returns-in-None-exports_of-clause-found : goal.returns-in-None-exports_of-clause-found
returns-in-None-exports_of-clause-found g c =
    let k = get_or c.args.path.now c.loop-k.k 0 in
    sym (c.loop-k.invariant.left ∙ lands_as c.args.path.now c.loop-k.k k (path_at c.args.path.now c.loop-k.k (omega arith)) [] (named_exports (entity_tree (trees c.args.types.now.nodes) c.loop-k.there)) (entity_tree (trees c.args.types.now.nodes) c.loop-k.here) (entity_tree (trees c.args.types.now.nodes) c.loop-k.there) c.in-None-exports_of.ensures.exports refl ∙ no_more c.args.path.now c.loop-k.k k (path_at c.args.path.now c.loop-k.k (omega arith)) (named_exports (entity_tree (trees c.args.types.now.nodes) c.loop-k.there)))

pub returns-in-None-2-clause-found : goal.returns-in-None-2-clause-found
returns-in-None-2-clause-found g c =
    let es = named_trees (trees c.args.types.now.nodes) c.in-Some-exports_of.exports.now in
    let k = get_or c.args.path.now c.loop-k.k 0 in
    let y = c.in-Some-get_index-2.entry.now in
    sym (c.loop-k.invariant.left ∙ lands_as c.args.path.now c.loop-k.k k (path_at c.args.path.now c.loop-k.k (omega arith)) es (named_exports (entity_tree (trees c.args.types.now.nodes) c.loop-k.there)) (entity_tree (trees c.args.types.now.nodes) c.loop-k.here) (entity_tree (trees c.args.types.now.nodes) c.loop-k.there) c.in-Some-exports_of.ensures.exports refl ∙
    no_name c.args.path.now c.loop-k.k k (path_at c.args.path.now c.loop-k.k (omega arith)) es (named_exports (entity_tree (trees c.args.types.now.nodes) c.loop-k.there)) (y.0, entity_tree (trees c.args.types.now.nodes) y.1.ty) (tree_at_place (trees c.args.types.now.nodes) c.in-Some-exports_of.exports.now k y (sym c.in-Some-get_index-2.ensures))
    (sym c.in_ok-ty.ensures.found ∙ ap (option_map (entity_tree (trees c.args.types.now.nodes))) c.in-None-2.is))

pub loop-k-preserved : goal.loop-k-preserved
loop-k-preserved g c =
    let es = named_trees (trees c.args.types.now.nodes) c.in-Some-exports_of.exports.now in
    let k = get_or c.args.path.now c.loop-k.k 0 in
    let y = c.in-Some-get_index-2.entry.now in
    record {
      maps = c.in_ok-ty.ensures.maps;
      here_stands = entry_within (λ (w : ComponentItem). EntityStands c.args.types.now w.ty) c.in-Some-exports_of.exports.now k y c.in-Some-exports_of.ensures.stand c.in-Some-get_index-2.ensures;
      there_stands = subst (λ o. IfSome o (EntityStands c.args.types.now)) c.in-Some-2.is c.in_ok-ty.ensures.stands;
      left = c.loop-k.invariant.left ∙ lands_as c.args.path.now c.loop-k.k k (path_at c.args.path.now c.loop-k.k (omega arith)) es (named_exports (entity_tree (trees c.args.types.now.nodes) c.loop-k.there)) (entity_tree (trees c.args.types.now.nodes) c.loop-k.here) (entity_tree (trees c.args.types.now.nodes) c.loop-k.there) c.in-Some-exports_of.ensures.exports refl ∙
          goes_on c.args.path.now c.loop-k.k k (path_at c.args.path.now c.loop-k.k (omega arith)) es (named_exports (entity_tree (trees c.args.types.now.nodes) c.loop-k.there)) (y.0, entity_tree (trees c.args.types.now.nodes) y.1.ty) (entity_tree (trees c.args.types.now.nodes) c.in-Some-2.ty) (tree_at_place (trees c.args.types.now.nodes) c.in-Some-exports_of.exports.now k y (sym c.in-Some-get_index-2.ensures))
          (sym c.in_ok-ty.ensures.found ∙ ap (option_map (entity_tree (trees c.args.types.now.nodes))) c.in-Some-2.is);
      within = omega arith;
      counted = omega (arith, c.in-Some-exports_of.ensures.counted, c.in_ok-ty.ensures.counted);
    }
