use Rattle.std.proofs.Common.{◌≡◌, true, take, map}
use Rattle.std.specs.List.{list_all}
use Rattle.wcv_core.specs.CoreRules.{val_shared, id_val}
use Rattle.wcv_core.proofs.core_rows.Rows.vals_shared.Given as goal

abbrev pub invariant-loop-i : goal.invariant-loop-i
invariant-loop-i l = record {
  shared : list_all (val_shared l.self) (take l.i (map (id_val l.first) l.types)) ≡ true;
}
