-- What the rebuilding of what is imported or exported leaves.
use Rattle.std.specs.Prelude.{ℕ, suc, max, List, [], ◌∷◌, false, length, ◌≡◌, ◌+◌, ◌≤◌}
use Rattle.wcv_types.specs.Arena.{Arena}
use Rattle.wcv_types.specs.Entities.{entity_slot, entity_tree, EntityStands}
use Rattle.wcv_types.specs.Replacing.{Replacement, changed, replaced}
use Rattle.wcv_types.specs.Unfold.{any_part, rank, slot_refs, trees}
use Rattle.wcv_types.specs.declared.ids.Part.{Part}
use Rattle.wcv_types.specs.declared.ids.Part.TheVariants as p
use Rattle.wcv_types.specs.declared.shapes.ComponentEntityType.{ComponentEntityType}
use Rattle.wcv_types.specs.declared.shapes.ComponentEntityType.TheVariants as entity
use Rattle.wcv_types.specs.declared.shapes.ComponentValType.TheVariants as v
use Rattle.wcv_remap.specs.Hygiene.{Hygienic}
use Rattle.wcv_remap.specs.Map.{Map}
use Rattle.wcv_remap.specs.Remap.{Serves, Sound, Visits, ReachedFrom}
use Rattle.wcv_remap.specs.declared.entity.Held.{Held}
use Rattle.wcv_remap.specs.declared.entity.Held.TheVariants as h

-- the types that an entity is
abbrev pub held : ComponentEntityType → Held
held (entity.Module i) = h.One (p.Module i)
held (entity.Func i) = h.One (p.Func i)
held (entity.Value (v.Primitive q)) = h.Nothing
held (entity.Value (v.Ty i)) = h.One (p.Defined i)
held (entity.Ty c r) = h.Two (any_part c) (any_part r)
held (entity.Instance i) = h.One (p.Instance i)
held (entity.Component i) = h.One (p.Component i)

-- one that is another type
abbrev pub with_part : Part → ComponentEntityType → ComponentEntityType
with_part (p.Module i) x = entity.Module i
with_part (p.Func i) x = entity.Func i
with_part (p.Defined i) x = entity.Value (v.Ty i)
with_part (p.Instance i) x = entity.Instance i
with_part (p.Component i) x = entity.Component i
with_part _ x = x

-- nothing that is owned inside goes elsewhere, or is mentioned by a node that is given
abbrev pub EntityHygienic : Arena → Map → ComponentEntityType → Type 0
EntityHygienic a map x = (m : Replacement) → Serves a map m → Hygienic m (entity_tree (trees a.nodes) x)

-- the largest rank among the parts
abbrev pub top_rank : List Part → ℕ
top_rank [] = 0
top_rank (q ∷ qs) = max (rank q) (top_rank qs)

-- each step and each new node is one more node in the map, which stood no later than the parts of x, is reached from x, and became a new one if it became
-- another
pub record EntityRemapped (a b : Arena) (map map' : Map) (s s' : ℕ) (x y : ComponentEntityType) : Type 0 where
  pub core : b.core ≡ a.core
  pub sound : Sound b map'
  pub stands : EntityStands b y
  pub tree : (m : Replacement) → Serves b map' m → entity_tree (trees b.nodes) y ≡ replaced m (entity_tree (trees a.nodes) x)
  -- what nothing in it changes keeps its ids
  pub same : (m : Replacement) → Serves b map' m → changed m (entity_tree (trees a.nodes) x) ≡ false → y ≡ x
  pub visits : Visits (ReachedFrom b (slot_refs (entity_slot x))) (length a.nodes) (suc (top_rank (slot_refs (entity_slot x)))) map map'
  pub steps : s' + length map.types ≤ s + length map'.types
  pub nodes : length b.nodes + length map.types ≤ length a.nodes + length map'.types
