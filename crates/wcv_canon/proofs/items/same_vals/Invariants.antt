use Rattle.std.proofs.Common.{◌≡◌, drop}
use Rattle.wcv_lower.specs.Types.{same_vals}
use Rattle.wcv_canon.proofs.items.same_vals.Given as goal

abbrev pub invariant-loop-i : goal.invariant-loop-i
invariant-loop-i l = record {
  rest : same_vals l.a l.b ≡ same_vals (drop l.i l.a) (drop l.i l.b);
}
