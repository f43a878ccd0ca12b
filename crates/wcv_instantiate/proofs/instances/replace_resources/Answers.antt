use Rattle.std.proofs.Common.{◌<◌, ◌≤◌, [], sym, subst}
use Rattle.std.specs.Prelude.{ℕ}
use Rattle.wcv_types.proofs.Grown.{extends_trans}
use Rattle.wcv_instantiate.proofs.NewResources.{next_absent, next_fresh, replaced_all, replaced_grown, replaced_next, replaced_none}
use Rattle.wcv_spaces.proofs.Walks.{none_within}
use Rattle.wcv_instantiate.specs.Opening.{Paths, Replaced}
use Rattle.wcv_instantiate.proofs.instances.replace_resources.Goals as goal

pub loop-k-init : goal.loop-k-init
loop-k-init c = subst (λ (ps : Paths). Replaced c.args.types.now c.args.types.now c.args.map.now c.args.map.now [] ps) (sym c.new-paths.ensures) (replaced_none c.args.types.now c.args.map.now)

pub unreachable-requires : goal.unreachable-requires
unreachable-requires c = none_within c.args.owned.now c.loop-k.k c.in-None.ensures (subst (λ (n : ℕ). c.loop-k.k < n) c.len-k-end.ensures.value c.loop-k-test.true)

pub replace_resource-requires-clause-absent : goal.replace_resource-requires-clause-absent
replace_resource-requires-clause-absent c =
    next_absent c.args.types.now c.loop-k.types c.args.map.now c.loop-k.map c.args.owned.now c.loop-k.paths c.loop-k.k (c.in-Some.old.now, c.in-Some.path.now) c.requires c.len-k-end.ensures.unique (sym c.in-Some.ensures) c.loop-k.invariant

pub replace_resource-requires-clause-fresh : goal.replace_resource-requires-clause-fresh
replace_resource-requires-clause-fresh c = next_fresh c.args.types.now c.loop-k.types c.args.map.now c.loop-k.map _ c.loop-k.paths c.loop-k.invariant

pub loop-k-preserved : goal.loop-k-preserved
loop-k-preserved c =
    replaced_next c.args.types.now c.loop-k.types _ c.args.map.now c.loop-k.map _ c.args.owned.now c.loop-k.paths _ c.loop-k.k (c.in-Some.old.now, c.in-Some.path.now) (sym c.in-Some.ensures) c.loop-k.invariant c.in_ok-replace_resource-in-Some.ensures.types
    c.in_ok-replace_resource-in-Some.ensures.map c.in_ok-replace_resource-in-Some.ensures.paths

pub returns-in_err-replace_resource-in-Some-clause-grown : goal.returns-in_err-replace_resource-in-Some-clause-grown
returns-in_err-replace_resource-in-Some-clause-grown c = extends_trans _ _ _ (replaced_grown _ _ _ _ _ _ c.loop-k.invariant) c.replace_resource.ensures.grown

pub returns-clause-grown : goal.returns-clause-grown
returns-clause-grown c = replaced_grown _ _ _ _ _ _ c.loop-k.invariant

pub returns-clause-ok : goal.returns-clause-ok
returns-clause-ok c = replaced_all _ _ _ _ c.args.owned.now _ c.loop-k.k (subst (λ (n : ℕ). n ≤ c.loop-k.k) c.len-k-end.ensures.value c.loop-k-test.false) c.loop-k.invariant
