use Rattle.std.proofs.Common.{◌≡◌, ◌+◌, ◌*◌, [], length}
use Rattle.wcv_syntax.specs.View.{entries}
use Rattle.wcv_binary.specs.Components.{component_within, sections_at}
use Rattle.wcv_binary.proofs.component.+components.Given as goal

abbrev pub decreases-read_nested : goal.decreases-read_nested
decreases-read_nested l = 6 * l.depth

abbrev pub decreases-read_whole : goal.decreases-read_whole
decreases-read_whole l = 6 * l.depth + 1

abbrev pub decreases-read_held : goal.decreases-read_held
decreases-read_held l = 6 * l.depth + 2

abbrev pub decreases-read_section : goal.decreases-read_section
decreases-read_section l = 6 * l.depth + 3

abbrev pub decreases-read_sections : goal.decreases-read_sections
decreases-read_sections l = 6 * l.depth + 4

abbrev pub decreases-read_component : goal.decreases-read_component
decreases-read_component l = 6 * l.depth + 5

abbrev pub decreases-read_sections-loop-rest : goal.decreases-read_sections-loop-rest
decreases-read_sections-loop-rest l = l.most

abbrev pub invariant-read_sections-loop-rest : goal.invariant-read_sections-loop-rest
invariant-read_sections-loop-rest l = sections_at l.depth (component_within l.depth) l.most l.end (entries l.all.items) l.left l.rest ≡ sections_at l.depth (component_within l.depth) (length l.bytes) l.end [] l.room l.bytes
