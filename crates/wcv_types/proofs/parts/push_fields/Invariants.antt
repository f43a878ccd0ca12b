use Rattle.std.proofs.Common.{◌≡◌, [], ◌++◌, drop}
use Rattle.wcv_types.specs.Unfold.{parts_in, field_slots}
use Rattle.wcv_types.proofs.parts.push_fields.Given as goal

abbrev pub invariant-loop-field : goal.invariant-loop-field
invariant-loop-field l = l.parts ++ parts_in (field_slots (drop l.field-index l.fields) []) ≡ l.initial.parts ++ parts_in (field_slots l.fields [])
