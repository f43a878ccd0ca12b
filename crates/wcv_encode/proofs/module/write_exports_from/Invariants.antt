use Rattle.std.proofs.Common.{◌≡◌, ◌≤◌, Some, drop}
use Rattle.wcv_syntax.specs.declared.core_section.ExternalKind.{ExternalKind}
use Rattle.wcv_encode.specs.Bytes.{◌⧺◌}
use Rattle.wcv_encode.specs.Modules.{count_of, no_items}
use Rattle.wcv_encode.proofs.Exports.{exported_from}
use Rattle.wcv_encode.proofs.module.write_exports_from.Given as goal

abbrev pub invariant-loop-decl : goal.invariant-loop-decl
invariant-loop-decl l = record {
  written : Some l.out.items ⧺ exported_from l.counts (drop l.decl-index l.decls) ≡ Some l.fn.out.items ⧺ exported_from no_items l.decls;
  few : (k : ExternalKind) → count_of l.counts k ≤ l.decl-index;
}
