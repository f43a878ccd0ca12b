use Rattle.std.proofs.Common.{◌≡◌, Some, drop}
use Rattle.wcv_encode.specs.Bytes.{◌⧺◌, each}
use Rattle.wcv_encode.proofs.list.write_each.Given as goal

abbrev pub invariant-loop-item : goal.invariant-loop-item
invariant-loop-item g l = Some l.out.items ⧺ each g.T.ToBytes.spelled (drop l.item-index l.items) ≡ Some l.fn.out.items ⧺ each g.T.ToBytes.spelled l.items
