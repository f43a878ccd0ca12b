use Rattle.std.proofs.Common.{◌≡◌, ◌+◌, ◌*◌, ◌++◌, length, drop, map, option_map}
use Rattle.wcv_syntax.specs.View.{component_decl_view, instance_decl_view}
use Rattle.wcv_listing.specs.Fields.{all_of, array_of}
use Rattle.wcv_listing.specs.Forms.{component_decl_of, instance_decl_of, type_within}
use Rattle.wcv_listing.specs.Seen.{view, list_view}
use Rattle.wcv_listing.proofs.type_form.+types.Given as goal

abbrev pub decreases-read_type_within : goal.decreases-read_type_within
decreases-read_type_within l = 7 * l.depth

abbrev pub decreases-read_type_over : goal.decreases-read_type_over
decreases-read_type_over l = 7 * l.depth + 6

abbrev pub decreases-read_type_under : goal.decreases-read_type_under
decreases-read_type_under l = 7 * l.depth + 5

abbrev pub decreases-read_component_decls : goal.decreases-read_component_decls
decreases-read_component_decls l = 7 * l.depth + 4

abbrev pub decreases-read_instance_decls : goal.decreases-read_instance_decls
decreases-read_instance_decls l = 7 * l.depth + 4

abbrev pub decreases-read_component_decl : goal.decreases-read_component_decl
decreases-read_component_decl l = 7 * l.depth + 3

abbrev pub decreases-read_component_decl_under : goal.decreases-read_component_decl_under
decreases-read_component_decl_under l = 7 * l.depth + 2

abbrev pub decreases-read_instance_decl : goal.decreases-read_instance_decl
decreases-read_instance_decl l = 7 * l.depth + 2

abbrev pub decreases-read_instance_decl_under : goal.decreases-read_instance_decl_under
decreases-read_instance_decl_under l = 7 * l.depth + 1

abbrev pub invariant-read_component_decls-loop-item : goal.invariant-read_component_decls-loop-item
invariant-read_component_decls-loop-item l =
    option_map (λ ds. map component_decl_view l.list.items ++ ds) (all_of (component_decl_of (type_within l.depth)) (list_view l.values)) ≡ array_of (component_decl_of (type_within l.depth)) (view l.value)

abbrev pub decreases-read_component_decls-loop-item : goal.decreases-read_component_decls-loop-item
decreases-read_component_decls-loop-item l = length (drop l.values.at l.values.tape.now)

abbrev pub invariant-read_instance_decls-loop-item : goal.invariant-read_instance_decls-loop-item
invariant-read_instance_decls-loop-item l =
    option_map (λ ds. map instance_decl_view l.list.items ++ ds) (all_of (instance_decl_of (type_within l.depth)) (list_view l.values)) ≡ array_of (instance_decl_of (type_within l.depth)) (view l.value)

abbrev pub decreases-read_instance_decls-loop-item : goal.decreases-read_instance_decls-loop-item
decreases-read_instance_decls-loop-item l = length (drop l.values.at l.values.tape.now)
