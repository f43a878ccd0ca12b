use Rattle.std.proofs.Common.{arith, rules, refl, sym, ◌∙◌}
use Rattle.std.proofs.lemmas.Result.{err_from_is_err_and}
use Rattle.wcv_types.specs.Entities.{EntityStands}
use Rattle.wcv_types.specs.declared.item_map.ComponentItem.{ComponentItem}
use Rattle.wcv_matching.proofs.ByName.{is_there}
use Rattle.wcv_matching.proofs.Entries.{entry_within}
use Rattle.wcv_matching.specs.OnePass.{given}
use Rattle.wcv_types.specs.Unfold.{trees}
use Rattle.wcv_atoms.specs.IdPasses.{named_trees}
use Rattle.wcv_atoms.specs.Readings.{reads}
use Rattle.wcv_compare.proofs.Comparing.{passed_as}
use Rattle.wcv_atoms.proofs.Extents.{entries_next, matched_next}
use Rattle.wcv_subtype.proofs.Opening.{all_gave, all_pass, fits_as, next_given, next_passes, refused_as, refuses}
use Rattle.wcv_subtype.proofs.openings.open_each.Goals as goal

pub loop-k-init : goal.loop-k-init
loop-k-init g c = record {
  left = search rules;
  right = refl;
  compared = c.requires.compared;
  seen = c.requires.seen;
  resources = refl;
  gives = search rules;
  counted = search rules;
}

pub argument_for-requires-clause-import : goal.argument_for-requires-clause-import
argument_for-requires-clause-import g c = entry_within (λ (w : ComponentItem). EntityStands c.args.types.now w.ty) c.args.imports.now c.loop-k.k c.in-Some.import.now c.requires.imports c.in-Some.ensures

pub returns-in_err-argument-in-Some-clause-err : goal.returns-in_err-argument-in-Some-clause-err
returns-in_err-argument-in-Some-clause-err g c =
    let y = c.in-Some.import.now in
    let p = err_from_is_err_and c.from_residual.result c.from_residual.ensures.1 in
    rw (p.1, p.2)
    (refuses c.args.types.now c.args.args.now (reads c.args.right.now) c.args.imports.now c.loop-k.k y (sym c.in-Some.ensures) c.args.offset c.in_err-argument-in-Some.field-0.0
    (refused_as c.args.types.now (reads c.loop-k.right) (reads c.args.right.now) c.args.args.now y c.args.offset c.in_err-argument-in-Some.field-0.0 c.loop-k.invariant.right c.in_err-argument-in-Some.ensures.err))

pub give-requires-clause-import : goal.give-requires-clause-import
give-requires-clause-import g c = entry_within (λ (w : ComponentItem). EntityStands c.args.types.now w.ty) c.args.imports.now c.loop-k.k c.in-Some.import.now c.requires.imports c.in-Some.ensures

pub unreachable-requires : goal.unreachable-requires
unreachable-requires g c = is_there c.args.imports.now c.loop-k.k (omega arith) c.in-None.ensures

pub loop-k-preserved : goal.loop-k-preserved
loop-k-preserved g c =
    let a = c.args.types.now in
    let f = reads c.args.right.now in
    let y = c.in-Some.import.now in
    let x = c.in_ok-argument-in-Some.argument in
    let w = fits_as a (reads c.loop-k.right) f c.args.args.now y x c.loop-k.invariant.right c.in_ok-argument-in-Some.ensures.fits in
    let n = entries_next (trees a.nodes) c.args.imports.now c.loop-k.k y (sym c.in-Some.ensures) in
    let m = matched_next (trees a.nodes) (named_trees (trees a.nodes) c.args.args.now) c.args.imports.now c.loop-k.k y (sym c.in-Some.ensures) in
    record {
      left = next_passes a c.args.args.now f c.args.imports.now c.loop-k.k y (sym c.in-Some.ensures) x w c.loop-k.invariant.left;
      right = c.in_ok-argument-in-Some.ensures.right ∙ c.loop-k.invariant.right;
      compared = passed_as a given (reads c.loop-k.right) given _ _ _ refl c.in_ok-argument-in-Some.ensures.right refl c.in_ok-argument-in-Some.ensures.compared;
      seen = c.in_ok-give-in-Some.ensures.seen;
      resources = c.in_ok-give-in-Some.ensures.resources ∙ c.loop-k.invariant.resources;
      gives = next_given a c.args.args.now f c.args.imports.now c.loop-k.k y (sym c.in-Some.ensures) x _ w (c.in_ok-give-in-Some.ensures.given _ c.loop-k.invariant.gives);
      counted = omega (arith, n, m, c.in_ok-argument-in-Some.ensures.counted, c.in_ok-give-in-Some.ensures.counted, c.loop-k.invariant.counted);
    }

pub returns-clause-passes : goal.returns-clause-passes
returns-clause-passes g c = all_pass c.args.types.now c.args.args.now (reads c.args.right.now) c.args.imports.now c.loop-k.k (omega arith) c.loop-k.invariant.left

pub returns-clause-given : goal.returns-clause-given
returns-clause-given g c = all_gave c.args.types.now c.args.args.now (reads c.args.right.now) c.args.imports.now c.loop-k.k (omega arith) c.loop-k.opening c.loop-k.invariant.gives

pub returns-in_err-argument-in-Some-clause-counted : goal.returns-in_err-argument-in-Some-clause-counted
returns-in_err-argument-in-Some-clause-counted g c =
    let a = c.args.types.now in
    let y = c.in-Some.import.now in
    let n = entries_next (trees a.nodes) c.args.imports.now c.loop-k.k y (sym c.in-Some.ensures) in
    let m = matched_next (trees a.nodes) (named_trees (trees a.nodes) c.args.args.now) c.args.imports.now c.loop-k.k y (sym c.in-Some.ensures) in
    omega (arith, n, m, c.in_err-argument-in-Some.ensures.counted, c.loop-k.invariant.counted)

pub returns-in_err-give-in-Some-clause-counted : goal.returns-in_err-give-in-Some-clause-counted
returns-in_err-give-in-Some-clause-counted g c =
    let a = c.args.types.now in
    let y = c.in-Some.import.now in
    let n = entries_next (trees a.nodes) c.args.imports.now c.loop-k.k y (sym c.in-Some.ensures) in
    let m = matched_next (trees a.nodes) (named_trees (trees a.nodes) c.args.args.now) c.args.imports.now c.loop-k.k y (sym c.in-Some.ensures) in
    omega (arith, n, m, c.in_ok-argument-in-Some.ensures.counted, c.in_err-give-in-Some.ensures.counted, c.loop-k.invariant.counted)
