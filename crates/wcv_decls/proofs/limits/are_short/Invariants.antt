use Rattle.std.proofs.Common.{take}
use Rattle.wcv_lower.specs.Checks.{IsFree, each_too_long}
use Rattle.wcv_spaces.specs.NameLists.{list_names}
use Rattle.wcv_decls.proofs.limits.are_short.Given as goal

abbrev pub invariant-loop-k : goal.invariant-loop-k
invariant-loop-k l = IsFree (each_too_long (take l.k (list_names l.list)))
