use Rattle.std.proofs.Common.{◌≡◌, length}
use Rattle.std.specs.Vec.Iter.{into_iter_items, into_iter_len}
use Rattle.wcv_instances.specs.ComponentInstances.{IsListed, item_checks}
use Rattle.wcv_instances.proofs.Looked.{Looked}
use Rattle.wcv_instances.proofs.component_instances.find_items.Given as goal

abbrev pub invariant-loop-export : goal.invariant-loop-export
invariant-loop-export l = record {
  looked : Looked (IsListed l.state.spaces) (item_checks l.types l.state.features l.state.spaces) l.fn.exports.items (into_iter_items l.export-iterator) l.found.items;
  left : into_iter_len l.export-iterator ≡ length (into_iter_items l.export-iterator);
}
