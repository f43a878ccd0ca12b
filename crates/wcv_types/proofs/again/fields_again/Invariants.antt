use Rattle.std.proofs.Common.{drop}
use Rattle.wcv_types.specs.Rebuild.{slots_by, field_value, Refilling}
use Rattle.wcv_types.proofs.again.fields_again.Given as goal

abbrev pub invariant-loop-field : goal.invariant-loop-field
invariant-loop-field l = Refilling (slots_by field_value l.fields) l.initial.parts (slots_by field_value (drop l.field-index l.fields)) (slots_by field_value l.again.items) l.parts
