use Rattle.std.proofs.Common.{◌≡◌, take, map}
use Rattle.wcv_core.specs.CoreForm.{sub_form}
use Rattle.wcv_core.specs.Checks.{IsFree, all_checks}
use Rattle.wcv_core.specs.CoreWritten.{index_checks, closed_sub}
use Rattle.wcv_core.proofs.Closing.{partly}
use Rattle.wcv_core.proofs.core_closing.close_subs.Given as goal

abbrev pub invariant-loop-i : goal.invariant-loop-i
invariant-loop-i g l = record {
  types : map sub_form l.types.items ≡ partly (closed_sub (g.G.InternRecGroup.entries l.group)) l.i (map sub_form l.initial.types.items);
  free : IsFree (all_checks (index_checks l.site.known (g.G.InternRecGroup.entries l.group) l.site.len) (take l.i (map sub_form l.initial.types.items)));
}
