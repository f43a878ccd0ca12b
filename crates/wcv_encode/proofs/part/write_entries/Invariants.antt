use Rattle.std.proofs.Common.{◌≡◌, Some, drop}
use Rattle.wcv_encode.specs.Bytes.{◌⧺◌}
use Rattle.wcv_encode.proofs.Parts.{added}
use Rattle.wcv_encode.proofs.part.write_entries.Given as goal

abbrev pub invariant-loop-decl : goal.invariant-loop-decl
invariant-loop-decl l = Some l.out.items ⧺ added l.part (drop l.decl-index l.decls) ≡ Some l.fn.out.items ⧺ added l.part l.decls
