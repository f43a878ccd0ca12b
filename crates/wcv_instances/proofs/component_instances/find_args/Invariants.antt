use Rattle.std.proofs.Common.{◌≡◌, length}
use Rattle.std.specs.Vec.Iter.{into_iter_items, into_iter_len}
use Rattle.wcv_instances.specs.ComponentInstances.{IsArg, arg_checks}
use Rattle.wcv_instances.proofs.Looked.{Looked}
use Rattle.wcv_instances.proofs.component_instances.find_args.Given as goal

abbrev pub invariant-loop-arg : goal.invariant-loop-arg
invariant-loop-arg l = record {
  looked : Looked (IsArg l.state.spaces) (arg_checks l.state.features l.state.spaces) l.fn.args.items (into_iter_items l.arg-iterator) l.found.items;
  left : into_iter_len l.arg-iterator ≡ length (into_iter_items l.arg-iterator);
}
