use Rattle.std.proofs.Common.{◌≡◌, ◌++◌, drop, map}
use Rattle.wcv_syntax.specs.View.{component_decl_view, instance_decl_view}
use Rattle.wcv_syntax.proofs.copy_type.+copy_type.Given as goal

abbrev pub invariant-copy_component_decls-loop-decl : goal.invariant-copy_component_decls-loop-decl
invariant-copy_component_decls-loop-decl l = map component_decl_view l.copied.items ++ map component_decl_view (drop l.decl-index l.decl-items) ≡ map component_decl_view l.decl-items

abbrev pub invariant-copy_instance_decls-loop-decl : goal.invariant-copy_instance_decls-loop-decl
invariant-copy_instance_decls-loop-decl l = map instance_decl_view l.copied.items ++ map instance_decl_view (drop l.decl-index l.decl-items) ≡ map instance_decl_view l.decl-items
