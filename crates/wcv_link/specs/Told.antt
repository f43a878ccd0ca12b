-- What is told of components inside others, while the arena grows.
use Rattle.std.specs.Prelude.{List, ◌++◌, slice_get, Some, ◌≡◌}
use Rattle.std.specs.List.{AllZip}
use Rattle.wcv_core.specs.Names.{Place}
use Rattle.wcv_types.specs.Arena.{Arena}
use Rattle.wcv_types.specs.ComponentTrees.{ComponentStands, PathsLead}
use Rattle.wcv_types.specs.Measure as measure
use Rattle.wcv_types.specs.Unfold.{Type_tree, tree_at}
use Rattle.wcv_types.specs.declared.arena.Node.TheVariants as n
use Rattle.wcv_types.specs.declared.component_type.ComponentType.{ComponentType}
use Rattle.wcv_types.specs.declared.ids.ComponentTypeId.{ComponentTypeId}
use Rattle.wcv_types.specs.declared.ids.Part.TheVariants as p
use Rattle.wcv_growth.specs.Listed.{ListsResources}
use Rattle.wcv_growth.specs.Nested.{Nested_types}
use Rattle.wcv_link.specs.declared.nesting.Nested.{Nested}
use Rattle.wcv_link.specs.declared.nesting.Nesting.{Nesting}

-- what the arena keeps of a component type of that tree
pub record IsKept (a : Arena) (ty : ComponentType) (t : Type_tree) : Type 0 where
  -- its size and its depth are those of its tree
  pub size : ty.info.size ≡ measure.size t
  pub depth : ty.info.depth ≡ measure.depth t
  -- all that the type names is of the arena, and each listed resource is found at its path
  pub stands : ComponentStands a ty
  pub lead : PathsLead a ty
  -- each free resource is imported or defined, never both
  pub listed : ListsResources t

-- the component type is the arena's node of that id
abbrev pub IsNode : Arena → ComponentTypeId → ComponentType → Type 0
IsNode a id ty = slice_get a.nodes id.index ≡ Some (n.Component ty)

-- the component stands there, and its type is the arena's node of its id
pub record Told (a : Arena) (x : Nested) (y : Place × Type_tree) : Type 0 where
  pub place : x.place ≡ y.0
  pub ty : ComponentType
  pub node : IsNode a x.ty ty
  pub tree : tree_at a (p.Component x.ty) ≡ y.1
  pub kept : IsKept a ty y.1

-- components of those types ended, in that order, and the place is the same as before
pub record Ended (a : Arena) (n n' : Nesting) (xs : Nested_types) : Type 0 where
  pub place : n'.place.items ≡ n.place.items
  pub more : List Nested
  pub ended : n'.ended.items ≡ n.ended.items ++ more
  pub told : AllZip (Told a) more xs
