use Rattle.std.proofs.Common.{◌≡◌, Some, true, false, drop}
use Rattle.wcv_syntax.specs.View.{component_decl_view, instance_decl_view}
use Rattle.wcv_encode.specs.Bytes.{◌⧺◌}
use Rattle.wcv_encode.proofs.Declared.{declared}
use Rattle.wcv_encode.proofs.types.+write_type.Given as goal

abbrev pub invariant-write_component_decls-loop-decl : goal.invariant-write_component_decls-loop-decl
invariant-write_component_decls-loop-decl l = Some l.out.items ⧺ declared true component_decl_view (drop l.decl-index l.decl-items) ≡ Some l.fn.out.items ⧺ declared true component_decl_view l.decl-items

abbrev pub invariant-write_instance_decls-loop-decl : goal.invariant-write_instance_decls-loop-decl
invariant-write_instance_decls-loop-decl l = Some l.out.items ⧺ declared false instance_decl_view (drop l.decl-index l.decl-items) ≡ Some l.fn.out.items ⧺ declared false instance_decl_view l.decl-items
