-- Types under a new identity.
use Rattle.std.specs.Prelude.{ℕ, ◌+◌, length, slice_get, Some, ◌≡◌}
use Rattle.wcv_core.specs.Names.{Name, number, stamp}
use Rattle.wcv_types.specs.Arena.{Arena}
use Rattle.wcv_types.specs.Entities.{any_part}
use Rattle.wcv_types.specs.Standing.{Stands, Extends, KeepsTrees, with_node}
use Rattle.wcv_types.specs.Tree.{Head, resource, defined, func, instance, component, core_module, core_instance, node}
use Rattle.wcv_types.specs.Unfold.{Type_tree, place, tree_in, trees, tree_at, unfolded}
use Rattle.wcv_types.specs.declared.arena.Node.{Node}
use Rattle.wcv_types.specs.declared.ids.ComponentAnyTypeId.{ComponentAnyTypeId}
use Rattle.wcv_types.specs.declared.ids.ComponentAnyTypeId.TheVariants as any

-- ## Trees

-- the head under another identity; a resource reference keeps its resource under another stamp
abbrev pub renewed_head : Name → Head Name Name → Head Name Name
renewed_head j (resource r s) = resource r j
renewed_head j (defined i k) = defined j k
renewed_head j (func i b) = func j b
renewed_head j (instance i own) = instance j own
renewed_head j (component i ins outs) = component j ins outs
renewed_head j (core_module i n) = core_module j n
renewed_head j (core_instance i n) = core_instance j n
renewed_head j h = h

-- the tree under another identity; its parts are the same
abbrev pub renewed : Name → Type_tree → Type_tree
renewed j (node h ps) = node (renewed_head j h) ps

-- ## In an arena

-- what no type of that sort is named yet: of a reference the next stamp, of a node the next place
abbrev pub next_name : Arena → ComponentAnyTypeId → Name
next_name a (any.Resource r) = stamp a.stamps
next_name a id = number (length a.nodes)

-- the id of that sort that has it
abbrev pub next_id : Arena → ComponentAnyTypeId → ComponentAnyTypeId
next_id a (any.Resource r) = any.Resource (record r { stamp = a.stamps })
next_id a (any.Defined i) = any.Defined (record { index = length a.nodes })
next_id a (any.Func i) = any.Func (record { index = length a.nodes })
next_id a (any.Instance i) = any.Instance (record { index = length a.nodes })
next_id a (any.Component i) = any.Component (record { index = length a.nodes })

-- the id of that sort that has this index; of a reference, this stamp
abbrev pub id_with : ComponentAnyTypeId → ℕ → ComponentAnyTypeId
id_with (any.Resource r) k = any.Resource (record r { stamp = k })
id_with (any.Defined i) k = any.Defined (record { index = k })
id_with (any.Func i) k = any.Func (record { index = k })
id_with (any.Instance i) k = any.Instance (record { index = k })
id_with (any.Component i) k = any.Component (record { index = k })

-- the arena with one more stamp
abbrev pub with_stamp : Arena → Arena
with_stamp a = record a { stamps = a.stamps + 1 }

-- one more node, equal to the one at the place k
pub record NodeAgain (a b : Arena) (k : ℕ) : Type 0 where
  pub shape : Node
  pub there : slice_get a.nodes k ≡ Some shape
  pub unfolds : tree_in (trees a.nodes) k ≡ unfolded a k shape
  pub added : b ≡ with_node a shape

-- of a reference one more stamp, of a node one more node
abbrev pub OneMore : Arena → Arena → ComponentAnyTypeId → Type 0
OneMore a b (any.Resource r) = b ≡ with_stamp a
OneMore a b id = NodeAgain a b (place (any_part id))

-- the type was given a new identity
pub record Renewed (a b : Arena) (id made : ComponentAnyTypeId) : Type 0 where
  pub arena : OneMore a b id
  pub made_is : made ≡ next_id a id
  pub stands : Stands b (any_part made)
  pub tree : tree_at b (any_part made) ≡ renewed (next_name a id) (tree_at a (any_part id))
  pub grown : Extends a b
  pub stay : KeepsTrees a b
