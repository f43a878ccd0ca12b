use Rattle.std.proofs.Common.{◌≡◌}
use Rattle.wcv_instances.proofs.Listing.{Listing}
use Rattle.wcv_instances.proofs.component_instances.list_items.Given as goal

abbrev pub invariant-loop-k : goal.invariant-loop-k
invariant-loop-k l = record {
  listing : Listing l.initial.types l.features l.found l.k l.items l.keys l.info;
  types : l.types ≡ l.initial.types;
}
