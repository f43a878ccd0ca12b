use Rattle.std.proofs.Common.{◌≡◌, ◌++◌, drop, map}
use Rattle.wcv_syntax.specs.View.{module_decl_view}
use Rattle.wcv_syntax.proofs.copy_core.copy_core_type.Given as goal

abbrev pub invariant-loop-decl : goal.invariant-loop-decl
invariant-loop-decl l = map module_decl_view l.copied.items ++ map module_decl_view (drop l.decl-index l.decl-items) ≡ map module_decl_view l.decl-items
