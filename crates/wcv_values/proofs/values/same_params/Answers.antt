use Rattle.std.proofs.Common.{arith, sym, ◌∙◌, Some}
use Rattle.wcv_types.specs.Tree.{label}
use Rattle.wcv_types.specs.Unfold.{trees}
use Rattle.wcv_atoms.specs.Readings.{reads}
use Rattle.wcv_values.specs.SeenValues.{labelled}
use Rattle.wcv_values.proofs.ValueExtents.{values_next}
use Rattle.wcv_values.proofs.SameValues.{other_count, labelled_count, param_at, values_differ, values_agree}
use Rattle.wcv_values.proofs.values.same_params.Goals as goal

pub returns-then-a-b-clause-same : goal.returns-then-a-b-clause-same
returns-then-a-b-clause-same g c = other_count (trees c.args.types.now.nodes) (reads c.args.left.now) (reads c.args.right.now) (labelled c.args.a.now) (labelled c.args.b.now) (labelled_count c.args.a.now c.args.b.now (λ e. omega (arith, e, c.if-a-b.true)))

pub returns-then-not-same_part-clause-same : goal.returns-then-not-same_part-clause-same
returns-then-not-same_part-clause-same g c =
    values_differ (trees c.args.types.now.nodes) (reads c.args.left.now) (reads c.args.right.now) (labelled c.args.a.now) (labelled c.args.b.now) c.loop-k.k (label c.index-a-k.result.0, Some c.index-a-k.result.1) (label c.index-b-k.result.0, Some c.index-b-k.result.1)
    (param_at c.args.a.now c.loop-k.k c.index-a-k.result (omega (arith, c.loop-k-test.true)) c.index-a-k.is) (param_at c.args.b.now c.loop-k.k c.index-b-k.result (omega (arith, c.loop-k-test.true, c.if-a-b.false)) c.index-b-k.is)
    c.loop-k.invariant.same (sym c.same_part.ensures.same ∙ c.if-not-same_part.true)

pub returns-then-not-same_part-clause-counted : goal.returns-then-not-same_part-clause-counted
returns-then-not-same_part-clause-counted g c =
    let x = values_next (trees c.args.types.now.nodes) (labelled c.args.a.now) c.loop-k.k (label c.index-a-k.result.0, Some c.index-a-k.result.1) (param_at c.args.a.now c.loop-k.k c.index-a-k.result (omega (arith, c.loop-k-test.true)) c.index-a-k.is) in
    let y = values_next (trees c.args.types.now.nodes) (labelled c.args.b.now) c.loop-k.k (label c.index-b-k.result.0, Some c.index-b-k.result.1) (param_at c.args.b.now c.loop-k.k c.index-b-k.result (omega (arith, c.loop-k-test.true, c.if-a-b.false)) c.index-b-k.is) in
    omega (arith, x, y, c.same_part.ensures.counted, c.loop-k.invariant.counted)

pub loop-k-preserved : goal.loop-k-preserved
loop-k-preserved g c =
    let x = values_next (trees c.args.types.now.nodes) (labelled c.args.a.now) c.loop-k.k (label c.index-a-k.result.0, Some c.index-a-k.result.1) (param_at c.args.a.now c.loop-k.k c.index-a-k.result (omega (arith, c.loop-k-test.true)) c.index-a-k.is) in
    let y = values_next (trees c.args.types.now.nodes) (labelled c.args.b.now) c.loop-k.k (label c.index-b-k.result.0, Some c.index-b-k.result.1) (param_at c.args.b.now c.loop-k.k c.index-b-k.result (omega (arith, c.loop-k-test.true, c.if-a-b.false)) c.index-b-k.is) in
    record {
      counted = omega (arith, x, y, c.same_part.ensures.counted, c.loop-k.invariant.counted);
      same = values_agree (trees c.args.types.now.nodes) (reads c.args.left.now) (reads c.args.right.now) (labelled c.args.a.now) (labelled c.args.b.now) c.loop-k.k (label c.index-a-k.result.0, Some c.index-a-k.result.1) (label c.index-b-k.result.0, Some c.index-b-k.result.1)
          (param_at c.args.a.now c.loop-k.k c.index-a-k.result (omega (arith, c.loop-k-test.true)) c.index-a-k.is) (param_at c.args.b.now c.loop-k.k c.index-b-k.result (omega (arith, c.loop-k-test.true, c.if-a-b.false)) c.index-b-k.is)
          c.loop-k.invariant.same (sym c.same_part.ensures.same ∙ c.if-not-same_part.false);
    }
