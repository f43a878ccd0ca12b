use Rattle.std.proofs.Common.{take, map}
use Rattle.wcv_core.specs.Checks.{all_checks}
use Rattle.wcv_syntax.specs.View.{component_decl_view, instance_decl_view}
use Rattle.wcv_lower.specs.Checks.{IsFree}
use Rattle.wcv_lower.specs.Declared.{decl_left}
use Rattle.wcv_decls.proofs.declared_limits.+limits.Given as goal

abbrev pub invariant-check_in_component-loop-decl : goal.invariant-check_in_component-loop-decl
invariant-check_in_component-loop-decl l = IsFree (all_checks decl_left (take l.decl-index (map component_decl_view l.decl-items)))

abbrev pub invariant-check_in_instance-loop-decl : goal.invariant-check_in_instance-loop-decl
invariant-check_in_instance-loop-decl l = IsFree (all_checks decl_left (take l.decl-index (map instance_decl_view l.decl-items)))
