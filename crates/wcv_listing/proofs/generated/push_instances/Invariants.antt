use Rattle.wcv_syntax.specs.View.{entries}
use Rattle.wcv_listing.specs.Generated.{passing_instance, each_below, Joins}
use Rattle.wcv_listing.proofs.generated.push_instances.Given as goal

abbrev pub invariant-loop-i : goal.invariant-loop-i
invariant-loop-i l = Joins (entries l.initial.items.items) (each_below l._i (λ i. passing_instance)) (entries l.items.items)
