use Rattle.std.proofs.Common.{◌≡◌, ◌≤◌, length, drop}
use Rattle.std.specs.Map.{lookup}
use Rattle.wcv_closed.specs.CoreModules.{same_pair}
use Rattle.wcv_types.specs.Tree.{Text}
use Rattle.wcv_matching.specs.ByName.{held_pair}
use Rattle.wcv_matching.proofs.by_name.imports_by_pair.Given as goal

abbrev pub invariant-loop-left : goal.invariant-loop-left
invariant-loop-left l = record {
  held : (q : Text × Text) → held_pair l.items q ≡ lookup (same_pair q) (drop l.left l.imports);
  within : l.left ≤ length l.imports;
}

abbrev pub decreases-loop-left : goal.decreases-loop-left
decreases-loop-left l = l.left
