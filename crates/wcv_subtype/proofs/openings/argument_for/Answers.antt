use Rattle.std.proofs.Common.{arith, true, false, refl, sym, inr}
use Rattle.wcv_types.specs.Entities.{entity_tree}
use Rattle.wcv_types.specs.Unfold.{trees}
use Rattle.wcv_atoms.specs.Readings.{reads}
use Rattle.wcv_matching.specs.OnePass.{given}
use Rattle.wcv_compare.proofs.Comparing.{passed_as}
use Rattle.wcv_atoms.proofs.Extents.{found_is}
use Rattle.wcv_subtype.proofs.Opening.{absent, fits, told, unfit}
use Rattle.wcv_atoms.proofs.PassIds.{answers_are, found_stands}
use Rattle.wcv_subtype.proofs.openings.argument_for.Goals as goal

pub entity_passes-requires-clause-a : goal.entity_passes-requires-clause-a
entity_passes-requires-clause-a g c = found_stands c.args.types.now c.args.args.now c.args.import.now.0 c.in-Some.item.now c.requires.args (sym c.in-Some.ensures)

pub entity_passes-requires-clause-compared : goal.entity_passes-requires-clause-compared
entity_passes-requires-clause-compared g c = passed_as c.args.types.now given (reads c.args.right.now) _ _ _ _ c.new-left.ensures refl refl c.requires.compared

pub returns-then-branch-clause-compared : goal.returns-then-branch-clause-compared
returns-then-branch-clause-compared g c = passed_as c.args.types.now (reads c.new-left.result) (reads c.args.right.now) _ _ _ _ (sym c.new-left.ensures) refl refl (c.in_ok-entity_passes-in-Some.ensures.compared c.if-branch.true)

pub returns-then-branch-clause-fits : goal.returns-then-branch-clause-fits
returns-then-branch-clause-fits g c =
    let a = c.args.types.now in
    let f = reads c.args.right.now in
    let x = c.in-Some.item.now in
    let y = c.args.import.now in
    fits a c.args.args.now f x y c.requires.args (sym c.in-Some.ensures)
    (sym (told a c.args.args.now f x y (reads c.new-left.result) true c.new-left.ensures (answers_are a.core false 0 (reads c.new-left.result) f (entity_tree (trees a.nodes) x.ty) (entity_tree (trees a.nodes) y.1.ty) c.in_ok-entity_passes-in-Some.ensures.answers c.if-branch.true)))

pub returns-then-branch-clause-right : goal.returns-then-branch-clause-right
returns-then-branch-clause-right g c = c.in_ok-entity_passes-in-Some.ensures.right c.if-branch.true

pub returns-in-Some-clause-err : goal.returns-in-Some-clause-err
returns-in-Some-clause-err g c =
    let a = c.args.types.now in
    let f = reads c.args.right.now in
    let x = c.in-Some.item.now in
    let y = c.args.import.now in
    inr (record {
      is = c.unfit_argument.ensures.kind;
      at = c.unfit_argument.ensures.offset;
      fails = unfit a c.args.args.now f x y (sym c.in-Some.ensures)
          (sym (told a c.args.args.now f x y (reads c.new-left.result) false c.new-left.ensures (answers_are a.core false 0 (reads c.new-left.result) f (entity_tree (trees a.nodes) x.ty) (entity_tree (trees a.nodes) y.1.ty) c.in_ok-entity_passes-in-Some.ensures.answers c.if-branch.false)));
    })

pub returns-clause-err : goal.returns-clause-err
returns-clause-err g c = inr (record { is = c.unfit_argument-in-None.ensures.kind; at = c.unfit_argument-in-None.ensures.offset; fails = absent c.args.types.now c.args.args.now (reads c.args.right.now) c.args.import.now (sym c.in-None.ensures) })

pub returns-in_err-entity_passes-in-Some-clause-counted : goal.returns-in_err-entity_passes-in-Some-clause-counted
returns-in_err-entity_passes-in-Some-clause-counted g c =
    let f = found_is (trees c.args.types.now.nodes) c.args.args.now c.args.import.now.0 c.in-Some.item.now (sym c.in-Some.ensures) in
    omega (arith, f, c.in_err-entity_passes-in-Some.ensures.counted)

pub returns-then-branch-clause-counted : goal.returns-then-branch-clause-counted
returns-then-branch-clause-counted g c =
    let f = found_is (trees c.args.types.now.nodes) c.args.args.now c.args.import.now.0 c.in-Some.item.now (sym c.in-Some.ensures) in
    omega (arith, f, c.in_ok-entity_passes-in-Some.ensures.counted)

pub returns-in-Some-clause-counted : goal.returns-in-Some-clause-counted
returns-in-Some-clause-counted g c =
    let f = found_is (trees c.args.types.now.nodes) c.args.args.now c.args.import.now.0 c.in-Some.item.now (sym c.in-Some.ensures) in
    omega (arith, f, c.in_ok-entity_passes-in-Some.ensures.counted)
