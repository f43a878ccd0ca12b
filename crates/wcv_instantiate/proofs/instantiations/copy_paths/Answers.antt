use Rattle.std.proofs.Common.{◌≡◌, ◌∙◌, ◌<◌, subst, sym, None}
use Rattle.std.specs.Map.{lookup}
use Rattle.wcv_types.specs.Sets.{same_resource}
use Rattle.wcv_types.proofs.Copying.{eqb-sym, fresh_entry, path_next, none_past}
use Rattle.wcv_instantiate.proofs.instantiations.copy_paths.Goals as goal

pub insert-requires : goal.insert-requires
insert-requires c =
    subst (λ es. lookup (same_resource c.in-Some.resource.now) es ≡ None) (sym c.loop-k.invariant)
    (fresh_entry same_resource same_resource (λ x y. eqb-sym x.index y.index) c.args.paths.now c.loop-k.k (c.in-Some.resource.now, c.in-Some.place.now) c.len-k-end.ensures.unique (sym c.in-Some.ensures))

pub unreachable-requires : goal.unreachable-requires
unreachable-requires c = none_past c.args.paths.now c.loop-k.k c.in-None.ensures (subst (λ n. c.loop-k.k < n) c.len-k-end.ensures.value c.loop-k-test.true)

pub loop-k-preserved : goal.loop-k-preserved
loop-k-preserved c =
    path_next c.args.paths.now c.loop-k.k c.in-Some.resource.now c.in-Some.place.now c.in_ok-new-in-Some.field-0 c.loop-k.copied c.insert.new.self (sym c.in-Some.ensures) c.loop-k.invariant
    (c.in_ok-new-in-Some.ensures ∙ c.positions.ensures) c.in_ok-insert-in-Some.ensures.ok
