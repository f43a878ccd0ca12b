-- What names ask of value types, over the nodes of an arena.
use Rattle.std.specs.Prelude.{ℕ, List, [], ◌∷◌, map, ◌≡◌, Option, Some, None, All}
use Rattle.wcv_core.specs.Names.{number}
use Rattle.wcv_types.specs.Arena.{Arena}
use Rattle.wcv_types.specs.Entities.{SlotStands}
use Rattle.wcv_types.specs.NamedBySet.{node_id}
use Rattle.wcv_types.specs.Standing.{Stands}
use Rattle.wcv_types.specs.Tree.{Text, defined, node}
use Rattle.wcv_types.specs.Unfold.{Type_tree, option_slot, value_slot, slot_tree, slot_parts, former_of, defined_slots, parts_in, trees}
use Rattle.wcv_types.specs.declared.ids.AliasableResourceId.{AliasableResourceId}
use Rattle.wcv_types.specs.declared.shapes.ComponentDefinedType.{ComponentDefinedType}
use Rattle.wcv_types.specs.declared.shapes.ComponentDefinedType.TheVariants as d
use Rattle.wcv_types.specs.declared.shapes.ComponentFuncType.{ComponentFuncType}
use Rattle.wcv_types.specs.declared.shapes.ComponentValType.{ComponentValType}
use Rattle.wcv_names.specs.Rules.{Params}

-- the tree of a value type that may be left out
abbrev pub option_tree : Arena → Option ComponentValType → Type_tree
option_tree a o = slot_tree (trees a.nodes) (option_slot o)

abbrev pub OptionStands : Arena → Option ComponentValType → Type 0
OptionStands a o = SlotStands a (option_slot o)

-- what a value type is as a node, if it is one
abbrev pub IsShape : Arena → Option ComponentValType → Option ComponentDefinedType → Type 0
IsShape a o None = node_id o ≡ None
IsShape a o (Some s) = (k : ℕ) × (option_tree a o ≡ node (defined (number k) (former_of s)) (slot_parts (trees a.nodes) (defined_slots s)))

-- all that it is made of is of the arena
abbrev pub IsShapeOf : Arena → Option ComponentDefinedType → Type 0
IsShapeOf a None = Unit {0}
IsShapeOf a (Some s) = All (Stands a) (parts_in (defined_slots s))

abbrev pub own_part : Option ComponentDefinedType → Option AliasableResourceId
own_part (Some (d.Own r)) = Some r
own_part o = None

abbrev pub borrow_part : Option ComponentDefinedType → Option AliasableResourceId
borrow_part (Some (d.Borrow r)) = Some r
borrow_part o = None

-- what a `result` holds where it is ok
abbrev pub ok_part : Option ComponentDefinedType → Option (Option ComponentValType)
ok_part (Some (d.Result o e)) = Some o
ok_part o = None

-- the parameters with their trees
abbrev pub param_trees : Arena → List (Text × ComponentValType) → Params
param_trees a ps = map (λ p. (p.0, slot_tree (trees a.nodes) (value_slot p.1))) ps

abbrev pub ParamsStand : Arena → List (Text × ComponentValType) → Type 0
ParamsStand a ps = All (λ p. SlotStands a (value_slot p.1)) ps

-- all that a function is made of is of the arena
pub record FuncStands (a : Arena) (f : ComponentFuncType) : Type 0 where
  pub params : ParamsStand a f.params.items
  pub result : OptionStands a f.result

-- the parameters behind the first
abbrev pub rest_of : {X : Type 0} → List X → List X
rest_of [] = []
rest_of (x ∷ xs) = xs
