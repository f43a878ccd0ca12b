use Rattle.std.proofs.Common.{◌≡◌, ◌++◌, drop, map}
use Rattle.wcv_syntax.specs.View.{code_decl_view}
use Rattle.wcv_syntax.proofs.copy_core.copy_module.Given as goal

abbrev pub invariant-loop-decl : goal.invariant-loop-decl
invariant-loop-decl l = map code_decl_view l.copied.items ++ map code_decl_view (drop l.decl-index l.decls) ≡ map code_decl_view l.decls
