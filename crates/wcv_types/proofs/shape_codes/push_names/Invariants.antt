use Rattle.std.proofs.Common.{◌≡◌, ◌++◌, drop}
use Rattle.wcv_types.specs.ShapeNumbers.{entry_numbers, entry_bytes, name_entries}
use Rattle.wcv_types.proofs.shape_codes.push_names.Given as goal

abbrev pub invariant-loop-name : goal.invariant-loop-name
invariant-loop-name l = record {
  numbers : l.code.0.items ++ entry_numbers (name_entries (drop l.name-index l.names)) ≡ l.initial.code.0.items ++ entry_numbers (name_entries l.names);
  bytes : l.code.1.items ++ entry_bytes (name_entries (drop l.name-index l.names)) ≡ l.initial.code.1.items ++ entry_bytes (name_entries l.names);
}
