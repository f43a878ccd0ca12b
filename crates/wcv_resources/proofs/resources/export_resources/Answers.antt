use Rattle.std.proofs.Common.{◌<◌, ◌≤◌, ◌∙◌, sym, subst}
use Rattle.std.specs.Prelude.{ℕ}
use Rattle.std.proofs.lemmas.Result.{err_from_is_err_and}
use Rattle.wcv_resources.proofs.Recorded.{unknown_none, unknown_new, unknown_next, unknown_all}
use Rattle.wcv_spaces.proofs.Listed.{has_no_value}
use Rattle.wcv_spaces.proofs.Walks.{none_within}
use Rattle.wcv_resources.proofs.resources.export_resources.Goals as goal

pub loop-k-init : goal.loop-k-init
loop-k-init c = unknown_none c.args.resources.now c.args.new.now

pub insert-requires : goal.insert-requires
insert-requires c = has_no_value c.in-Some.resource.now c.loop-k.resources (unknown_new c.args.resources.now c.loop-k.resources c.args.new.now c.loop-k.k (c.in-Some.resource.now, c.in-Some.field-0-1.now) c.requires c.len-k-end.ensures.unique (sym c.in-Some.ensures) c.loop-k.invariant)

pub unreachable-requires : goal.unreachable-requires
unreachable-requires c = none_within c.args.new.now c.loop-k.k c.in-None.ensures (subst (λ (n : ℕ). c.loop-k.k < n) c.len-k-end.ensures.value c.loop-k-test.true)

pub loop-k-preserved : goal.loop-k-preserved
loop-k-preserved c = unknown_next c.args.resources.now c.loop-k.resources _ c.args.new.now c.loop-k.k (c.in-Some.resource.now, c.in-Some.field-0-1.now) (sym c.in-Some.ensures) c.loop-k.invariant c.in_ok-insert-in-Some.ensures.ok

pub returns-in_err-insert-in-Some-clause-err : goal.returns-in_err-insert-in-Some-clause-err
returns-in_err-insert-in-Some-clause-err c =
    let p = err_from_is_err_and c.from_residual.result c.from_residual.ensures.1 in
    rw p.1 (c.loop-k.k, c.in_err-insert-in-Some.ensures.err ∙ c.loop-k.invariant)

pub returns-clause-ok : goal.returns-clause-ok
returns-clause-ok c = unknown_all c.args.resources.now c.loop-k.resources c.args.new.now c.loop-k.k (subst (λ (n : ℕ). n ≤ c.loop-k.k) c.len-k-end.ensures.value c.loop-k-test.false) c.loop-k.invariant
