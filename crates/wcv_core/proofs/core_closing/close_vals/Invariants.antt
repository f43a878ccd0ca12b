use Rattle.std.proofs.Common.{◌≡◌, take}
use Rattle.wcv_core.specs.Checks.{IsFree, all_checks}
use Rattle.wcv_core.specs.CoreWritten.{val_checks, closed_val}
use Rattle.wcv_core.proofs.Closing.{partly}
use Rattle.wcv_core.proofs.core_closing.close_vals.Given as goal

abbrev pub invariant-loop-i : goal.invariant-loop-i
invariant-loop-i g l = record {
  types : l.types.items ≡ partly (closed_val (g.G.InternRecGroup.entries l.group)) l.i l.initial.types.items;
  free : IsFree (all_checks (val_checks l.site.known (g.G.InternRecGroup.entries l.group) l.site.len) (take l.i l.initial.types.items));
}
