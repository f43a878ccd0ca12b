use Rattle.std.proofs.Common.{◌≡◌, ◌++◌, length}
use Rattle.std.specs.Vec.Iter.{into_iter_items, into_iter_len}
use Rattle.wcv_instances.proofs.component_instances.as_map.Given as goal

abbrev pub invariant-loop-entry : goal.invariant-loop-entry
invariant-loop-entry l = record {
  whole : l.map ++ into_iter_items l.entry-iterator ≡ l.fn.found.items;
  left : into_iter_len l.entry-iterator ≡ length (into_iter_items l.entry-iterator);
}
