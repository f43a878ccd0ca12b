use Rattle.std.proofs.Common.{◌≡◌, take, map, false}
use Rattle.std.specs.List.{list_any}
use Rattle.wcv_lower.specs.CanonOptions.{stands}
use Rattle.wcv_flat.specs.CodeRows.{name_of}
use Rattle.wcv_canon.proofs.asks.first_standing.Given as goal

abbrev pub invariant-loop-name : goal.invariant-loop-name
invariant-loop-name l = record {
  before : list_any (λ n. stands n l.options) (take l.name-index (map name_of l.names)) ≡ false;
}
