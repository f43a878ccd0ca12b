use Rattle.std.proofs.Common.{◌≡◌, ◌++◌, take}
use Rattle.wcv_core.specs.CoreCode.{fields_code}
use Rattle.wcv_core.proofs.core_codes.push_fields.Given as goal

abbrev pub invariant-loop-field : goal.invariant-loop-field
invariant-loop-field l = l.code.items ≡ l.initial.code.items ++ fields_code (take l.field-index l.fields)
