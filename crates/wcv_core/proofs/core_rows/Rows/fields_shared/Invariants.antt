use Rattle.std.proofs.Common.{◌≡◌, true, take, map}
use Rattle.std.specs.List.{list_all}
use Rattle.wcv_core.specs.CoreRules.{field_shared, id_field}
use Rattle.wcv_core.proofs.core_rows.Rows.fields_shared.Given as goal

abbrev pub invariant-loop-i : goal.invariant-loop-i
invariant-loop-i l = record {
  shared : list_all (field_shared l.self) (take l.i (map (id_field l.first) l.fields)) ≡ true;
}
