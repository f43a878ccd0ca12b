use Rattle.std.proofs.Common.{◌≡◌, drop, map}
use Rattle.wcv_core.specs.CoreMatching.{val_matches}
use Rattle.wcv_core.specs.CoreRules.{each_matches, id_val}
use Rattle.wcv_core.proofs.core_rows.Rows.vals_match.Given as goal

abbrev pub invariant-loop-i : goal.invariant-loop-i
invariant-loop-i l = record {
  same : each_matches (val_matches l.self) (map (id_val l.first_a) l.a) (map (id_val l.first_b) l.b) ≡ each_matches (val_matches l.self) (drop l.i (map (id_val l.first_a) l.a)) (drop l.i (map (id_val l.first_b) l.b));
}
