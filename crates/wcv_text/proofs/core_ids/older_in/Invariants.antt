use Rattle.std.proofs.Common.{◌≡◌, nat_lt, take}
use Rattle.std.specs.List.{filter}
use Rattle.wcv_core.specs.CoreIds.{ids_in_group}
use Rattle.wcv_types.specs.CoreText.{group_at}
use Rattle.wcv_text.proofs.core_ids.older_in.Given as goal

abbrev pub invariant-loop-k : goal.invariant-loop-k
invariant-loop-k l = l.older ≡ filter (λ j. nat_lt j l.first.index) (take l.k (ids_in_group (group_at l.core l.fn.id.index)))
