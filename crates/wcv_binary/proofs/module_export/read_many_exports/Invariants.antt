use Rattle.std.proofs.Common.{◌≡◌, ◌-◌}
use Rattle.wcv_binary.specs.ModuleItems.{export_at}
use Rattle.wcv_binary.specs.ModuleViews.{spaces_form}
use Rattle.wcv_bytes.specs.Reading.{list_at}
use Rattle.wcv_bytes.proofs.Loop.{with_front}
use Rattle.wcv_binary.proofs.module_export.read_many_exports.Given as goal

abbrev pub invariant-loop : goal.invariant-loop
invariant-loop l = with_front l.exports.items (list_at (export_at (spaces_form l.spaces)) (l.count - l.counter) l.rest) ≡ list_at (export_at (spaces_form l.spaces)) l.count l.bytes
