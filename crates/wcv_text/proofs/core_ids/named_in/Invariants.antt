use Rattle.std.proofs.Common.{◌≡◌, ◌++◌, drop}
use Rattle.wcv_core.specs.CoreIds.{all_ids, sub_ids, ids_in_group}
use Rattle.wcv_types.specs.CoreText.{group_at}
use Rattle.wcv_text.proofs.core_ids.named_in.Given as goal

abbrev pub invariant-loop-k : goal.invariant-loop-k
invariant-loop-k l = l.ids ++ all_ids sub_ids (drop l.k (group_at l.core l.fn.id.index)) ≡ ids_in_group (group_at l.core l.fn.id.index)
