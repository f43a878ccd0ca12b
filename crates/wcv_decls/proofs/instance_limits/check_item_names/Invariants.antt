use Rattle.std.proofs.Common.{take}
use Rattle.wcv_core.specs.Checks.{IsFree, all_checks}
use Rattle.wcv_syntax.specs.declared.name.ComponentExport.{ComponentExport}
use Rattle.wcv_lower.specs.Checks.{each_too_long, texts_of}
use Rattle.wcv_lower.specs.Entries.{extern_name}
use Rattle.wcv_decls.proofs.instance_limits.check_item_names.Given as goal

abbrev pub invariant-loop-export : goal.invariant-loop-export
invariant-loop-export l = record {
  free : IsFree (all_checks (λ (e : ComponentExport). each_too_long (texts_of (extern_name e.name))) (take l.export-index l.exports));
}
