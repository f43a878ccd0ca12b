use Rattle.std.proofs.Common.{◌≡◌, ◌∙◌, ◌<◌, ℕ, true, false, bytes_eq, ap, sym, subst}
use Rattle.wcv_types.proofs.SameNames.{compared, next_same, next_differ}
use Rattle.wcv_types.proofs.by_name.have_names.Goals as goal

pub returns-then-ne-clause-others : goal.returns-then-ne-clause-others
returns-then-ne-clause-others g c _ e =
    let differ : bytes_eq c.index-pairs-k.result.0 c.index-others-k.result.0 ≡ false =
    compared c.as_str.result.now c.as_str-in-loop-k.result.now c.index-pairs-k.result.0 c.index-others-k.result.0 c.ne.result true
    (c.as_str.ensures ∙ ap (λ p. p.0) (sym c.index-pairs-k.is)) (c.as_str-in-loop-k.ensures ∙ ap (λ p. p.0) (sym c.index-others-k.is)) c.ne.ensures c.if-ne.true in
    next_differ c.args.pairs.now c.args.others.now c.loop-k.k c.index-pairs-k.result c.index-others-k.result c.loop-k-test.true (subst (λ (n : ℕ). c.loop-k.k < n) c.if-pairs-others.false c.loop-k-test.true)
    c.index-pairs-k.is c.index-others-k.is differ e

pub loop-k-preserved : goal.loop-k-preserved
loop-k-preserved g c h =
    let same : bytes_eq c.index-pairs-k.result.0 c.index-others-k.result.0 ≡ true =
    compared c.as_str.result.now c.as_str-in-loop-k.result.now c.index-pairs-k.result.0 c.index-others-k.result.0 c.ne.result false
    (c.as_str.ensures ∙ ap (λ p. p.0) (sym c.index-pairs-k.is)) (c.as_str-in-loop-k.ensures ∙ ap (λ p. p.0) (sym c.index-others-k.is)) c.ne.ensures c.if-ne.false in
    c.loop-k.invariant (next_same c.args.pairs.now c.args.others.now c.loop-k.k c.index-pairs-k.result c.index-others-k.result c.loop-k-test.true (subst (λ (n : ℕ). c.loop-k.k < n) c.if-pairs-others.false c.loop-k-test.true)
    c.index-pairs-k.is c.index-others-k.is same h)
