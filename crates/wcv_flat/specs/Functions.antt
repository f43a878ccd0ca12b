-- The parts of a function type over an arena.
use Rattle.wcv_core.specs.Names.{Name}
use Rattle.wcv_types.specs.Arena.{Arena}
use Rattle.wcv_types.specs.Tree.{Parts}
use Rattle.wcv_types.specs.Unfold.{slots_of, slot_parts, trees}
use Rattle.wcv_types.specs.declared.arena.Node.TheVariants as n
use Rattle.wcv_types.specs.declared.shapes.ComponentFuncType.{ComponentFuncType}

-- those of each node that is made of it there
abbrev pub func_parts : Arena → ComponentFuncType → Parts Name Name
func_parts a f = slot_parts (trees a.nodes) (slots_of (n.Func f))
