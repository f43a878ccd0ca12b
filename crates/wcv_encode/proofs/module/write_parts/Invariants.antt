use Rattle.std.proofs.Common.{◌≡◌, Some, drop, map}
use Rattle.wcv_syntax.specs.View.{code_decl_view}
use Rattle.wcv_encode.specs.Bytes.{◌⧺◌}
use Rattle.wcv_encode.specs.Modules.{parts_bytes}
use Rattle.wcv_encode.proofs.module.write_parts.Given as goal

abbrev pub invariant-loop-part : goal.invariant-loop-part
invariant-loop-part l = Some l.out.items ⧺ parts_bytes (map code_decl_view l.decls) (drop l.part-index l.parts) ≡ Some l.fn.out.items ⧺ parts_bytes (map code_decl_view l.decls) l.parts
