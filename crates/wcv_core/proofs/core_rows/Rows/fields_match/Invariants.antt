use Rattle.std.proofs.Common.{◌≡◌, drop, map}
use Rattle.wcv_core.specs.CoreRules.{front_matches, field_matches, id_field}
use Rattle.wcv_core.proofs.core_rows.Rows.fields_match.Given as goal

abbrev pub invariant-loop-i : goal.invariant-loop-i
invariant-loop-i l = record {
  same : front_matches (field_matches l.self) (map (id_field l.first_a) l.a) (map (id_field l.first_b) l.b) ≡ front_matches (field_matches l.self) (drop l.i (map (id_field l.first_a) l.a)) (drop l.i (map (id_field l.first_b) l.b));
}
