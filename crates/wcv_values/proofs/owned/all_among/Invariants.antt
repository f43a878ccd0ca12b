use Rattle.std.proofs.Common.{◌≡◌, drop}
use Rattle.std.specs.List.{list_all}
use Rattle.wcv_types.specs.Sets.{has_resource}
use Rattle.wcv_values.proofs.owned.all_among.Given as goal

-- what is left decides
abbrev pub invariant-loop-k : goal.invariant-loop-k
invariant-loop-k l = list_all (has_resource l.b) l.a ≡ list_all (has_resource l.b) (drop l.k l.a)
