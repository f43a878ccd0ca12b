-- How an instance is made of an instance type: its own resources become new ones, and what mentions one is made again.
use Rattle.std.specs.Prelude.{ℕ, suc, List, [], ◌∷◌, ◌++◌, Bool, length, Some, All, Contains, ◌+◌, ◌≡◌, ◌<◌, ◌≤◌}
use Rattle.std.specs.List.{IsDistinct}
use Rattle.std.specs.Map.{keys_of}
use Rattle.wcv_core.specs.Names.{Name, number}
use Rattle.wcv_types.specs.Arena.{Arena}
use Rattle.wcv_types.specs.ByName.{NamesDiffer}
use Rattle.wcv_types.specs.Entities.{entity_slot, entity_tree, entry_name, entry_trees, retyped, EntityStands, EntryStands}
use Rattle.wcv_types.specs.FirstPath.{first_path}
use Rattle.wcv_types.specs.Replacing.{Replacement, replaced}
use Rattle.wcv_types.specs.Sets.{same_resource}
use Rattle.wcv_types.specs.Standing.{Extends, Stands}
use Rattle.wcv_types.specs.Tree.{Text, instance_type, owned}
use Rattle.wcv_types.specs.Unfold.{Type_tree, slot_refs, tree_at, trees}
use Rattle.wcv_types.specs.declared.ids.ComponentInstanceTypeId.{ComponentInstanceTypeId}
use Rattle.wcv_types.specs.declared.ids.Part.{Part}
use Rattle.wcv_types.specs.declared.ids.Part.TheVariants as part
use Rattle.wcv_types.specs.declared.ids.ResourceId.{ResourceId}
use Rattle.wcv_types.specs.declared.item_map.ComponentItem.{ComponentItem}
use Rattle.wcv_types.specs.declared.shapes.ComponentEntityType.{ComponentEntityType}
pub use Rattle.wcv_lower.specs.Defined.{is_empty}
use Rattle.wcv_remap.specs.Entities.{top_rank}
use Rattle.wcv_remap.specs.Map.{Map}
use Rattle.wcv_remap.specs.Remap.{Each, Serves, Sound, Visits}
use Rattle.wcv_instantiate.specs.declared.instances.Opened.{Opened}

-- entries by name
abbrev pub Items : Type 0
Items = List (Text × ComponentItem)

-- resources, each with its path
abbrev pub Paths : Type 0
Paths = List (ResourceId × List ℕ)

-- ## The type

abbrev pub owns_none : Type_tree → Bool
owns_none t = is_empty (owned t)

abbrev pub names_of_resources : Paths → List Name
names_of_resources [] = []
names_of_resources (e ∷ es) = number e.0.index ∷ names_of_resources es

abbrev pub entry_rank : Text × ComponentItem → ℕ
entry_rank e = top_rank (slot_refs (entity_slot e.1.ty))

-- what the instance type exports, and what it owns, each with the first path to it
pub record IsOpened (a : Arena) (i : ComponentInstanceTypeId) (o : Opened) : Type 0 where
  pub tree : tree_at a (part.Instance i) ≡ instance_type (number i.index) (names_of_resources o.owned) (entry_trees (trees a.nodes) o.exports)
  pub stand : All (EntryStands a) o.exports
  pub apart : NamesDiffer o.exports
  pub before : (e : Text × ComponentItem) → Contains o.exports e → entry_rank e < suc i.index
  pub distinct : IsDistinct same_resource (keys_of o.owned)
  pub first : All (λ e. first_path (number e.0.index) (entry_trees (trees a.nodes) o.exports) ≡ Some e.1) o.owned

-- ## Its resources

-- the arena with more resources, each with a stamp
abbrev pub more_given : Arena → ℕ → Arena
more_given a k = record a { resources = a.resources + k; stamps = a.stamps + k }

abbrev pub one_more : Arena → Arena
one_more a = more_given a 1

-- the resources from that number on, with the paths of those
abbrev pub renumbered : ℕ → Paths → Paths
renumbered k [] = []
renumbered k (e ∷ es) = (record { index = k }, e.1) ∷ renumbered (suc k) es

-- each goes to the resource of its number
abbrev pub to_numbers : ℕ → Paths → List (ResourceId × ResourceId)
to_numbers k [] = []
to_numbers k (e ∷ es) = (e.0, record { index = k }) ∷ to_numbers (suc k) es

-- new resources came in the places of the old ones, with their paths
pub record Replaced (a b : Arena) (map map' : Map) (old new : Paths) : Type 0 where
  pub arena : b ≡ more_given a (length old)
  pub resources : map'.resources ≡ map.resources ++ to_numbers a.resources old
  pub types : map'.types ≡ map.types
  pub paths : new ≡ renumbered a.resources old

-- ## Its exports

abbrev pub with_entity : Text × ComponentItem → ComponentEntityType → Text × ComponentItem
with_entity e x = (e.0, record e.1 { ty = x })

-- what the map makes of an entry, by each replacement that it serves as
pub record EntryBecomes (a b : Arena) (map : Map) (x y : Text × ComponentItem) : Type 0 where
  pub named : entry_name y ≡ entry_name x
  pub stands : EntityStands b y.1.ty
  pub tree : (m : Replacement) → Serves b map m → entity_tree (trees b.nodes) y.1.ty ≡ replaced m (entity_tree (trees a.nodes) x.1.ty)

abbrev pub Anything : Part → Type 0
Anything q = Unit {0}

-- the type that the map makes of an entry's joined the list
pub record TypePushed (a b : Arena) (map map' : Map) (x : Text × ComponentItem) (old new : List ComponentEntityType) : Type 0 where
  pub core : b.core ≡ a.core
  pub sound : Sound b map'
  pub visits : Visits Anything (length a.nodes) (suc (entry_rank x)) map map'
  pub made : ComponentEntityType
  pub becomes : EntryBecomes a b map' x (with_entity x made)
  pub pushed : new ≡ old ++ made ∷ []

-- what the map makes of all exports. What was visited stood no later than they do, and became no other or a new node
pub record ExportsRemapped (a b : Arena) (map map' : Map) (xs ys : Items) : Type 0 where
  pub grown : Extends a b
  pub core : b.core ≡ a.core
  pub sound : Sound b map'
  pub visits : (k : ℕ) → ((e : Text × ComponentItem) → Contains xs e → suc (entry_rank e) ≤ k) → Visits Anything (length a.nodes) k map map'
  pub each : Each (EntryBecomes a b map') xs ys

-- one type for each export: that of what the map makes of it
pub record TypesRemapped (a b : Arena) (map map' : Map) (xs : Items) (tys : List ComponentEntityType) : Type 0 where
  pub as_many : length tys ≡ length xs
  pub exports : ExportsRemapped a b map map' xs (retyped xs tys)

-- ## The instance

-- one more node: an instance type that owns nothing, with these exports
pub record InstancePushed (a b : Arena) (es : Items) (i : ComponentInstanceTypeId) : Type 0 where
  pub grown : Extends a b
  pub last : i.index ≡ length a.nodes
  pub nodes : length b.nodes ≡ suc (length a.nodes)
  pub resources : b.resources ≡ a.resources
  pub core : b.core ≡ a.core
  pub stands : Stands b (part.Instance i)
  pub tree : tree_at b (part.Instance i) ≡ instance_type (number (length a.nodes)) [] (entry_trees (trees a.nodes) es)
