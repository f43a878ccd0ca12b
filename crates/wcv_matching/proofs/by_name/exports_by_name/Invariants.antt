use Rattle.std.proofs.Common.{◌≡◌, ◌≤◌, length, drop, bytes_eq}
use Rattle.std.specs.Map.{lookup}
use Rattle.wcv_types.specs.Tree.{Text}
use Rattle.wcv_matching.specs.ByName.{held}
use Rattle.wcv_matching.proofs.by_name.exports_by_name.Given as goal

abbrev pub invariant-loop-left : goal.invariant-loop-left
invariant-loop-left l = record {
  held : (q : Text) → held l.items q ≡ lookup (bytes_eq q) (drop l.left l.exports);
  within : l.left ≤ length l.exports;
}

abbrev pub decreases-loop-left : goal.decreases-loop-left
decreases-loop-left l = l.left
