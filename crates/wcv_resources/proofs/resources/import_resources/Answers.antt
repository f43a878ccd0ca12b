use Rattle.std.proofs.Common.{◌<◌, ◌≤◌, ◌∙◌, sym, subst}
use Rattle.std.specs.Prelude.{ℕ}
use Rattle.std.proofs.lemmas.Result.{err_from_is_err_and}
use Rattle.wcv_resources.proofs.Recorded.{placed_none, placed_new, placed_next, placed_all}
use Rattle.wcv_spaces.proofs.Walks.{none_within}
use Rattle.wcv_resources.proofs.resources.import_resources.Goals as goal

pub loop-k-init : goal.loop-k-init
loop-k-init c = placed_none c.args.position c.args.resources.now c.args.new.now

pub import_one-requires : goal.import_one-requires
import_one-requires c = (placed_new c.args.position c.args.resources.now c.loop-k.resources c.args.new.now c.loop-k.k (c.in-Some.resource.now, c.in-Some.path.now) c.requires c.len-k-end.ensures.unique (sym c.in-Some.ensures) c.loop-k.invariant)

pub unreachable-requires : goal.unreachable-requires
unreachable-requires c = none_within c.args.new.now c.loop-k.k c.in-None.ensures (subst (λ (n : ℕ). c.loop-k.k < n) c.len-k-end.ensures.value c.loop-k-test.true)

pub loop-k-preserved : goal.loop-k-preserved
loop-k-preserved c = placed_next c.args.position c.args.resources.now c.loop-k.resources _ c.args.new.now c.loop-k.k (c.in-Some.resource.now, c.in-Some.path.now) (sym c.in-Some.ensures) c.loop-k.invariant c.in_ok-import_one-in-Some.ensures.ok

pub returns-in_err-import_one-in-Some-clause-err : goal.returns-in_err-import_one-in-Some-clause-err
returns-in_err-import_one-in-Some-clause-err c =
    let p = err_from_is_err_and c.from_residual.result c.from_residual.ensures.1 in
    rw p.1 (c.loop-k.k, c.in_err-import_one-in-Some.ensures.err ∙ c.loop-k.invariant)

pub returns-clause-ok : goal.returns-clause-ok
returns-clause-ok c = placed_all c.args.position c.args.resources.now c.loop-k.resources c.args.new.now c.loop-k.k (subst (λ (n : ℕ). n ≤ c.loop-k.k) c.len-k-end.ensures.value c.loop-k-test.false) c.loop-k.invariant
