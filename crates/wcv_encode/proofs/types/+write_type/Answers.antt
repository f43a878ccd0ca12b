use Rattle.std.proofs.Common.{true, false, arith}
use Rattle.wcv_syntax.specs.View.{component_decl_view, instance_decl_view}
use Rattle.wcv_encode.proofs.Joins.{joins}
use Rattle.wcv_encode.proofs.Declared.{declared_drop, declared_end}
use Rattle.wcv_encode.proofs.types.+write_type.Goals as goal

pub write_component_decls-returns-in_err-write_component_decl : goal.write_component_decls-returns-in_err-write_component_decl
write_component_decls-returns-in_err-write_component_decl t c =
    let e = declared_drop true component_decl_view c.deref-decl-items.result.now c.loop-decl.decl-index c.decl-item.result (omega arith) c.decl-item.is in
    grind (arith, joins)

pub write_component_decls-loop-decl-preserved : goal.write_component_decls-loop-decl-preserved
write_component_decls-loop-decl-preserved t c =
    let e = declared_drop true component_decl_view c.deref-decl-items.result.now c.loop-decl.decl-index c.decl-item.result (omega arith) c.decl-item.is in
    grind (arith, joins)

pub write_component_decls-returns : goal.write_component_decls-returns
write_component_decls-returns t c =
    let e = declared_end true component_decl_view c.deref-decl-items.result.now c.loop-decl.decl-index (omega arith) in
    grind (arith, joins)

pub write_instance_decls-returns-in_err-write_instance_decl : goal.write_instance_decls-returns-in_err-write_instance_decl
write_instance_decls-returns-in_err-write_instance_decl t c =
    let e = declared_drop false instance_decl_view c.deref-decl-items.result.now c.loop-decl.decl-index c.decl-item.result (omega arith) c.decl-item.is in
    grind (arith, joins)

pub write_instance_decls-loop-decl-preserved : goal.write_instance_decls-loop-decl-preserved
write_instance_decls-loop-decl-preserved t c =
    let e = declared_drop false instance_decl_view c.deref-decl-items.result.now c.loop-decl.decl-index c.decl-item.result (omega arith) c.decl-item.is in
    grind (arith, joins)

pub write_instance_decls-returns : goal.write_instance_decls-returns
write_instance_decls-returns t c =
    let e = declared_end false instance_decl_view c.deref-decl-items.result.now c.loop-decl.decl-index (omega arith) in
    grind (arith, joins)
