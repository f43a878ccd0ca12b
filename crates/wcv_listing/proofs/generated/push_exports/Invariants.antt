use Rattle.wcv_syntax.specs.View.{entries}
use Rattle.wcv_listing.specs.Generated.{passed_export, each_below, Joins}
use Rattle.wcv_listing.proofs.generated.push_exports.Given as goal

abbrev pub invariant-loop-i : goal.invariant-loop-i
invariant-loop-i l = Joins (entries l.initial.items.items) (each_below l.i passed_export) (entries l.items.items)
