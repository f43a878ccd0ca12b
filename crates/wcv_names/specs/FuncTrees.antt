-- Functions and entities of an arena, as names speak of them.
use Rattle.std.specs.Prelude.{ℕ, List, [], ◌∷◌, map, ◌≡◌, Bool, true, false, Option, Some, None}
use Rattle.wcv_core.specs.Names.{number}
use Rattle.wcv_types.specs.Arena.{Arena}
use Rattle.wcv_types.specs.Tree.{Text, here, func, node}
use Rattle.wcv_types.specs.Unfold.{Type_tree, field_slots, option_slot, slot_parts, trees}
use Rattle.wcv_types.specs.declared.ids.ComponentFuncTypeId.{ComponentFuncTypeId}
use Rattle.wcv_types.specs.declared.item_map.ComponentItem.{ComponentItem}
use Rattle.wcv_types.specs.declared.shapes.ComponentEntityType.{ComponentEntityType}
use Rattle.wcv_types.specs.declared.shapes.ComponentEntityType.TheVariants as entity
use Rattle.wcv_types.specs.declared.shapes.ComponentFuncType.{ComponentFuncType}

-- the tree is that of the function type
abbrev pub IsFunction : Arena → Type_tree → ComponentFuncType → Type 0
IsFunction a t s = (k : ℕ) × (t ≡ node (func (number k) s.async_) (slot_parts (trees a.nodes) (field_slots s.params.items ((here, option_slot s.result) ∷ []))))

abbrev pub func_part : ComponentEntityType → Option ComponentFuncTypeId
func_part (entity.Func i) = Some i
func_part x = None

abbrev pub is_instance_id : ComponentEntityType → Bool
is_instance_id (entity.Instance i) = true
is_instance_id x = false

-- the names of entries
abbrev pub names_in : List (Text × ComponentItem) → List Text
names_in es = map (λ e. e.0) es
