use Rattle.std.proofs.Common.{◌≡◌, ◌++◌, drop}
use Rattle.wcv_core.specs.CoreIds.{all_ids, field_ids}
use Rattle.wcv_text.proofs.core_ids.push_fields.Given as goal

abbrev pub invariant-loop-field : goal.invariant-loop-field
invariant-loop-field l = l.ids ++ all_ids field_ids (drop l.field-index l.fields) ≡ l.initial.ids ++ all_ids field_ids l.fields
