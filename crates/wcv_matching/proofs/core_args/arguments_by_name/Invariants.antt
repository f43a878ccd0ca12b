use Rattle.std.proofs.Common.{◌≤◌, length, drop, bytes_eq}
use Rattle.std.specs.Prelude.{IfSome}
use Rattle.std.specs.Map.{lookup}
use Rattle.wcv_core.specs.CoreGroups.{total}
use Rattle.wcv_core.specs.CoreSizes.{IsEntityWithin}
use Rattle.wcv_types.specs.Tree.{Text}
use Rattle.wcv_matching.specs.ByName.{held}
use Rattle.wcv_matching.specs.CoreArguments.{argument_exports, export_under, HeldAs}
use Rattle.wcv_matching.proofs.core_args.arguments_by_name.Given as goal

abbrev pub invariant-loop-left : goal.invariant-loop-left
invariant-loop-left l = record {
  held : (q : Text) → HeldAs (held l.items q) (lookup (bytes_eq q) (argument_exports l.types (drop l.left l.args)));
  within : (i : Text × Text) → IfSome (export_under l.items i) (IsEntityWithin (total l.types.core));
  few : l.left ≤ length l.args;
}

abbrev pub decreases-loop-left : goal.decreases-loop-left
decreases-loop-left l = l.left
