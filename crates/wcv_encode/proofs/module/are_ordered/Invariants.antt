use Rattle.std.proofs.Common.{◌≡◌, map, drop}
use Rattle.wcv_syntax.specs.View.{code_decl_view}
use Rattle.wcv_encode.specs.Modules.{is_ordered}
use Rattle.wcv_encode.proofs.module.are_ordered.Given as goal

abbrev pub invariant-loop-decl : goal.invariant-loop-decl
invariant-loop-decl l = is_ordered l.least (map code_decl_view (drop l.decl-index l.decls)) ≡ is_ordered 0 (map code_decl_view l.decls)
