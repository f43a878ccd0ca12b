use Rattle.std.proofs.Common.{◌≡◌, ◌+◌, ◌-◌, ◌*◌, map}
use Rattle.wcv_syntax.specs.View.{component_decl_view, instance_decl_view}
use Rattle.wcv_bytes.specs.Reading.{list_at}
use Rattle.wcv_binary.specs.Types.{component_decl_at, instance_decl_at, type_within}
use Rattle.wcv_bytes.proofs.Loop.{with_front}
use Rattle.wcv_binary.proofs.types.+types.Given as goal

abbrev pub decreases-read_type_within : goal.decreases-read_type_within
decreases-read_type_within l = 5 * l.depth

abbrev pub decreases-read_type_over : goal.decreases-read_type_over
decreases-read_type_over l = 5 * l.depth + 4

abbrev pub decreases-read_component_decls : goal.decreases-read_component_decls
decreases-read_component_decls l = 5 * l.depth + 3

abbrev pub decreases-read_instance_decls : goal.decreases-read_instance_decls
decreases-read_instance_decls l = 5 * l.depth + 3

abbrev pub decreases-read_component_decl : goal.decreases-read_component_decl
decreases-read_component_decl l = 5 * l.depth + 2

abbrev pub decreases-read_instance_decl : goal.decreases-read_instance_decl
decreases-read_instance_decl l = 5 * l.depth + 1

abbrev pub invariant-read_component_decls-loop : goal.invariant-read_component_decls-loop
invariant-read_component_decls-loop l =
    with_front (map component_decl_view l.decls.items) (list_at (component_decl_at (type_within l.depth)) (l.count - l.counter) l.rest) ≡ list_at (component_decl_at (type_within l.depth)) l.count l.bytes

abbrev pub invariant-read_instance_decls-loop : goal.invariant-read_instance_decls-loop
invariant-read_instance_decls-loop l =
    with_front (map instance_decl_view l.decls.items) (list_at (instance_decl_at (type_within l.depth)) (l.count - l.counter) l.rest) ≡ list_at (instance_decl_at (type_within l.depth)) l.count l.bytes
