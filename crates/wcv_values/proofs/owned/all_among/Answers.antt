use Rattle.std.proofs.Common.{arith, sym, ◌∙◌}
use Rattle.wcv_types.specs.Sets.{has_resource}
use Rattle.wcv_matching.proofs.Entries.{not_past}
use Rattle.wcv_atoms.proofs.Walking.{each_holds, one_does_not}
use Rattle.wcv_values.proofs.owned.all_among.Goals as goal
use Rattle.wcv_values.proofs.owned.all_among.Goals.{in-Some+else-not-contains, in_default}

pub returns-then-not-contains : goal.returns-then-not-contains
returns-then-not-contains c = one_does_not (has_resource c.args.b.now) c.args.a.now c.loop-k.k c.in-Some.resource.now (sym c.in-Some.ensures) c.loop-k.invariant (sym c.contains.ensures ∙ c.if-not-contains.true)

pub loop-k-preserved : goal.loop-k-preserved
loop-k-preserved c = elim c.match-get_index.branch [
  | in-Some+else-not-contains w ↦ each_holds (has_resource c.args.b.now) c.args.a.now c.loop-k.k w.in-Some.resource.now (sym w.in-Some.ensures) c.loop-k.invariant (sym w.contains.ensures ∙ w.if-not-contains.false)
  | in_default w ↦ not_past c.args.a.now c.loop-k.k (omega arith) w.in_default.ensures
]
