-- What stands in an arena, what may be added to it, and how it grows.
use Rattle.std.specs.Prelude.{ℕ, suc, length, ◌+◌, ◌≡◌, ◌<◌, ◌≤◌, List, [], ◌∷◌, ◌++◌, map, take, slice_get, Some, All, IfSome}
use Rattle.wcv_core.specs.CoreForm.{Group}
use Rattle.wcv_core.specs.CoreGroups.{total}
use Rattle.wcv_core.specs.CoreSizes.{IsEntityWithin, entity_size}
use Rattle.wcv_core.specs.Names.{Name, number, stamp}
use Rattle.wcv_core.specs.declared.core_types.EntityType.{EntityType}
use Rattle.wcv_types.specs.Tree.{node, head}
use Rattle.wcv_types.specs.Identity.{Identity, of_node, of_reference, identity_at}
use Rattle.wcv_types.specs.Arena.{Arena}
use Rattle.wcv_types.specs.CoreParts.{exported_items}
use Rattle.wcv_types.specs.ByName.{NamesDiffer}
use Rattle.wcv_types.specs.Led.{Led}
use Rattle.wcv_types.specs.Resources.{owned_by}
use Rattle.wcv_types.specs.Unfold.{Type_tree, capped, head_of, part_tree, place, rank, parts_of, parts_at, slots_at, slot_parts, trees, tree_of, tree_at, info_of, IsInfoOf}
use Rattle.wcv_types.specs.declared.arena.Node.{Node}
use Rattle.wcv_types.specs.declared.arena.Node.TheVariants as n
use Rattle.wcv_types.specs.declared.component_type.ComponentType.{ComponentType}
use Rattle.wcv_types.specs.declared.core_shapes.CoreInstanceTypeKind.{CoreInstanceTypeKind}
use Rattle.wcv_types.specs.declared.core_shapes.CoreInstanceTypeKind.TheVariants as kind
use Rattle.wcv_types.specs.declared.core_shapes.InstanceType.{InstanceType}
use Rattle.wcv_types.specs.declared.core_shapes.ModuleType.{ModuleType}
use Rattle.wcv_types.specs.declared.ids.AliasableResourceId.{AliasableResourceId}
use Rattle.wcv_types.specs.declared.ids.Part.{Part}
use Rattle.wcv_types.specs.declared.ids.Part.TheVariants as p
use Rattle.wcv_types.specs.declared.instance_type.ComponentInstanceType.{ComponentInstanceType}
use Rattle.wcv_types.specs.declared.shapes.ComponentDefinedType.{ComponentDefinedType}
use Rattle.wcv_types.specs.declared.shapes.ComponentFuncType.{ComponentFuncType}

-- the arena gave the resource and the stamp
pub record ReferenceStands (a : Arena) (r : AliasableResourceId) : Type 0 where
  pub resource : r.resource.index < a.resources
  pub stamp : r.stamp < a.stamps

-- the part is of the arena: a reference to a resource that it made, a core type of its table, or a node of that sort
abbrev pub Stands : Arena → Part → Type 0
Stands a (p.Resource r) = ReferenceStands a r
Stands a (p.Func i) = (s : ComponentFuncType) × (slice_get a.nodes i.index ≡ Some (n.Func s))
Stands a (p.Defined i) = (s : ComponentDefinedType) × (slice_get a.nodes i.index ≡ Some (n.Defined s))
Stands a (p.Instance i) = (s : ComponentInstanceType) × (slice_get a.nodes i.index ≡ Some (n.Instance s))
Stands a (p.Component i) = (s : ComponentType) × (slice_get a.nodes i.index ≡ Some (n.Component s))
Stands a (p.Module i) = (s : ModuleType) × (slice_get a.nodes i.index ≡ Some (n.Module s))
Stands a (p.CoreInstance i) = (s : InstanceType) × (slice_get a.nodes i.index ≡ Some (n.CoreInstance s))
Stands a (p.Core i) = i.index < total a.core

-- the part stands in the arena, before the node of that rank
pub record StandsBefore (a : Arena) (bound : ℕ) (q : Part) : Type 0 where
  pub stands : Stands a q
  pub before : rank q < bound

-- the arena gave the resource of that name
abbrev pub GaveResource : Arena → Name → Type 0
GaveResource a (number k) = k < a.resources
GaveResource a _ = ⊥

-- the types of what a core instance has as its own exports
abbrev pub kind_items : CoreInstanceTypeKind → List EntityType
kind_items (kind.Instantiated m) = []
kind_items (kind.Exports es) = map (λ e. e.1) es

-- the types of what a core module imports and exports, and of what a core instance exports
abbrev pub core_items : Node → List EntityType
core_items (n.Module s) = map (λ i. i.1) s.imports ++ map (λ e. e.1) s.exports
core_items (n.CoreInstance s) = kind_items s.kind
core_items _ = []

abbrev pub entity_sizes : List Group → List EntityType → ℕ
entity_sizes gs [] = 0
entity_sizes gs (e ∷ es) = entity_size gs e + entity_sizes gs es

-- 1 and the sizes of these items
abbrev pub own_size : List Group → List EntityType → ℕ
own_size gs es = capped (suc (entity_sizes gs es))

-- what a core instance exports: what its module does, or what it lists
abbrev pub kind_exported : List Type_tree → CoreInstanceTypeKind → List EntityType
kind_exported ts (kind.Instantiated m) = exported_items (part_tree ts (p.Module m))
kind_exported ts (kind.Exports es) = map (λ e. e.1) es

-- the core types that these items name are of the table, and the size is what they count
pub record Counts (gs : List Group) (es : List EntityType) (size : ℕ) : Type 0 where
  pub within : All (IsEntityWithin (total gs)) es
  pub size_is : size ≡ own_size gs es

-- the size that a core module states is what it imports and exports, and that of a core instance what it exports
abbrev pub IsStated : List Group → List Type_tree → Node → Type 0
IsStated gs ts (n.Module s) = s.info.size ≡ own_size gs (core_items (n.Module s))
IsStated gs ts (n.CoreInstance s) = Counts gs (kind_exported ts s.kind) s.info.size
IsStated gs ts _ = Unit {0}

-- in the imports and in the exports of a component type, and in the exports of an instance type, the names differ
abbrev pub AreNamesApart : Node → Type 0
AreNamesApart (n.Instance s) = NamesDiffer s.exports
AreNamesApart (n.Component s) = NamesDiffer s.imports × NamesDiffer s.exports
AreNamesApart _ = Unit {0}

-- the node may be added to the arena
pub record Fits (a : Arena) (x : Node) : Type 0 where
  pub parts : All (Stands a) (parts_of x)
  pub info : IfSome (info_of x) (λ i. IsInfoOf i (tree_of (trees a.nodes) x))
  -- the resources that it owns are of the arena, and are led to
  pub owned : All (GaveResource a) (owned_by (head_of (length a.nodes) x))
  pub led : Led (tree_of (trees a.nodes) x)
  -- the core types that it names are of the table
  pub within : All (IsEntityWithin (total a.core)) (core_items x)
  pub stated : IsStated a.core (trees a.nodes) x
  pub apart : AreNamesApart x

-- the arena with its first k nodes alone
abbrev pub cut : Arena → ℕ → Arena
cut a k = record a { nodes = take k a.nodes }

-- each node fits those before it
abbrev pub AllFit : Arena → Type 0
AllFit a = (k : ℕ) (x : Node) → slice_get a.nodes k ≡ Some x → Fits (cut a k) x

-- the arena with one more node
abbrev pub with_node : Arena → Node → Arena
with_node a x = record a { nodes = a.nodes ++ x ∷ [] }

-- the arena only grew
pub record Extends (a b : Arena) : Type 0 where
  pub more : List Node
  pub nodes : b.nodes ≡ a.nodes ++ more
  pub groups : List Group
  pub core : b.core ≡ a.core ++ groups
  pub resources : a.resources ≤ b.resources
  pub stamps : a.stamps ≤ b.stamps

-- what stood stands, and its tree is the same
pub record KeepsTrees (a b : Arena) : Type 0 where
  pub stands : (q : Part) → Stands a q → Stands b q
  pub trees : (q : Part) → Stands a q → tree_at b q ≡ tree_at a q

-- the identity of a type: of a node its place, of a reference its resource and its stamp
abbrev pub identity_of : Part → Identity
identity_of (p.Resource r) = of_reference (number r.resource.index) (stamp r.stamp)
identity_of q = of_node (number (place q))

-- any type but a core type is known by an identity, and gets a line of its own
abbrev pub HasIdentity : Part → Type 0
HasIdentity (p.Core i) = ⊥
HasIdentity q = Unit {0}

-- the tree of the type is made of the trees of its parts, which stand before it, and has its identity
pub record Unfolds (a : Arena) (q : Part) : Type 0 where
  pub tree : tree_at a q ≡ node (head (tree_at a q)) (slot_parts (trees a.nodes) (slots_at a.nodes q))
  pub before : All (StandsBefore a (rank q)) (parts_at a q)
  pub known : identity_at (head (tree_at a q)) ≡ Some (identity_of q)
