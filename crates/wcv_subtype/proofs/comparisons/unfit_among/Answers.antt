use Rattle.std.proofs.Common.{◌≡◌, arith, rules, sym, ap, ◌∙◌, bytes_eq, Some}
use Rattle.std.specs.Map.{lookup}
use Rattle.wcv_types.specs.Entities.{EntityStands}
use Rattle.wcv_types.specs.declared.item_map.ComponentItem.{ComponentItem}
use Rattle.wcv_types.specs.Unfold.{trees}
use Rattle.wcv_matching.proofs.Entries.{entry_within, not_past}
use Rattle.wcv_atoms.specs.IdPasses.{named_trees}
use Rattle.wcv_atoms.specs.Readings.{reads}
use Rattle.wcv_compare.proofs.Comparing.{passed_as}
use Rattle.wcv_atoms.proofs.Extents.{entries_next, found_is, matched_next, matched_within}
use Rattle.wcv_atoms.proofs.PassIds.{found_stands}
use Rattle.wcv_subtype.proofs.comparisons.unfit_among.Goals as goal
use Rattle.wcv_subtype.proofs.comparisons.unfit_among.Goals.{in-Some+in-Some-get+in_ok-entity_passes-in-Some-get+else-not-branch, in_default}

pub loop-k-init : goal.loop-k-init
loop-k-init g c = record { compared = c.requires.compared; counted = search rules }

pub entity_passes-requires-clause-a : goal.entity_passes-requires-clause-a
entity_passes-requires-clause-a g c =
    let y = c.in-Some.entry.now in
    let e : lookup (bytes_eq y.0) c.args.a.now ≡ Some c.in-Some-get.item.now = sym c.in-Some-get.ensures in
    found_stands c.args.types.now c.args.a.now y.0 c.in-Some-get.item.now c.requires.a e

pub entity_passes-requires-clause-b : goal.entity_passes-requires-clause-b
entity_passes-requires-clause-b g c = entry_within (λ (w : ComponentItem). EntityStands c.args.types.now w.ty) c.args.b.now c.loop-k.k c.in-Some.entry.now c.requires.b c.in-Some.ensures

pub entity_passes-requires-clause-compared : goal.entity_passes-requires-clause-compared
entity_passes-requires-clause-compared g c = c.loop-k.invariant.compared

pub returns-in_err-entity_passes-in-Some-get-clause-counted : goal.returns-in_err-entity_passes-in-Some-get-clause-counted
returns-in_err-entity_passes-in-Some-get-clause-counted g c =
    let y = c.in-Some.entry.now in
    let e : lookup (bytes_eq y.0) c.args.a.now ≡ Some c.in-Some-get.item.now = sym c.in-Some-get.ensures in
    let n = entries_next (trees c.args.types.now.nodes) c.args.b.now c.loop-k.k y (sym c.in-Some.ensures) in
    let m = matched_next (trees c.args.types.now.nodes) (named_trees (trees c.args.types.now.nodes) c.args.a.now) c.args.b.now c.loop-k.k y (sym c.in-Some.ensures) in
    let f = found_is (trees c.args.types.now.nodes) c.args.a.now y.0 c.in-Some-get.item.now e in
    let w = matched_within (trees c.args.types.now.nodes) (named_trees (trees c.args.types.now.nodes) c.args.a.now) c.args.b.now c.requires.apart in
    omega (arith, n, m, f, w, c.in_err-entity_passes-in-Some-get.ensures.counted, c.loop-k.invariant.counted)

pub returns-then-not-branch-clause-counted : goal.returns-then-not-branch-clause-counted
returns-then-not-branch-clause-counted g c =
    let y = c.in-Some.entry.now in
    let e : lookup (bytes_eq y.0) c.args.a.now ≡ Some c.in-Some-get.item.now = sym c.in-Some-get.ensures in
    let n = entries_next (trees c.args.types.now.nodes) c.args.b.now c.loop-k.k y (sym c.in-Some.ensures) in
    let m = matched_next (trees c.args.types.now.nodes) (named_trees (trees c.args.types.now.nodes) c.args.a.now) c.args.b.now c.loop-k.k y (sym c.in-Some.ensures) in
    let f = found_is (trees c.args.types.now.nodes) c.args.a.now y.0 c.in-Some-get.item.now e in
    let w = matched_within (trees c.args.types.now.nodes) (named_trees (trees c.args.types.now.nodes) c.args.a.now) c.args.b.now c.requires.apart in
    omega (arith, n, m, f, w, c.in_ok-entity_passes-in-Some-get.ensures.counted, c.loop-k.invariant.counted)

pub returns-in-None-clause-counted : goal.returns-in-None-clause-counted
returns-in-None-clause-counted g c =
    let w = matched_within (trees c.args.types.now.nodes) (named_trees (trees c.args.types.now.nodes) c.args.a.now) c.args.b.now c.requires.apart in
    omega (arith, w, c.loop-k.invariant.counted)

pub returns-clause-counted : goal.returns-clause-counted
returns-clause-counted g c =
    let w = matched_within (trees c.args.types.now.nodes) (named_trees (trees c.args.types.now.nodes) c.args.a.now) c.args.b.now c.requires.apart in
    omega (arith, w, c.loop-k.invariant.counted)

pub loop-k-preserved : goal.loop-k-preserved
loop-k-preserved g c = elim c.match-get_index.branch [
  | in-Some+in-Some-get+in_ok-entity_passes-in-Some-get+else-not-branch v ↦ (
      let y = v.in-Some.entry.now in
      let e : lookup (bytes_eq y.0) c.args.a.now ≡ Some v.in-Some-get.item.now = sym v.in-Some-get.ensures in
      let n = entries_next (trees c.args.types.now.nodes) c.args.b.now c.loop-k.k y (sym v.in-Some.ensures) in
      let m = matched_next (trees c.args.types.now.nodes) (named_trees (trees c.args.types.now.nodes) c.args.a.now) c.args.b.now c.loop-k.k y (sym v.in-Some.ensures) in
      let f = found_is (trees c.args.types.now.nodes) c.args.a.now y.0 v.in-Some-get.item.now e in
      record {
        compared = passed_as c.args.types.now (reads c.loop-k.left) (reads c.loop-k.right) _ _ _ _ (ap reads v.left-is ∙ v.in_ok-entity_passes-in-Some-get.ensures.left v.if-not-branch.false) (ap reads v.right-is ∙ v.in_ok-entity_passes-in-Some-get.ensures.right v.if-not-branch.false) v.compared-is
            (v.in_ok-entity_passes-in-Some-get.ensures.compared v.if-not-branch.false);
        counted = omega (arith, n, m, f, v.in_ok-entity_passes-in-Some-get.ensures.counted, c.loop-k.invariant.counted, v.steps-is);
      }
      )
  | in_default v ↦ not_past c.args.b.now c.loop-k.k (omega arith) v.in_default.ensures
]
