-- Trees whose heights are told by what the pass looks at.
use Rattle.std.specs.Prelude.{ℕ, suc, Some, ◌≡◌}
use Rattle.wcv_core.specs.Names.{Name, number}
use Rattle.wcv_core.specs.declared.core_types.EntityType.{EntityType}
use Rattle.wcv_types.specs.Arena.{Arena}
use Rattle.wcv_types.specs.Identity.{Identity, of_node, of_reference, identity_at}
use Rattle.wcv_types.specs.Tree.{Head, instance, component, type_entity, core_module, core_item, import, export, core_import, core_export, node, Parts, none, part}
use Rattle.wcv_types.specs.Unfold.{Type_tree, tree_in, trees}
use Rattle.wcv_matching.specs.Orderly.{EachNode, height, heights}

abbrev pub ExportsAlone : Parts Name Name → Type 0
ExportsAlone none = Unit {0}
ExportsAlone (part (export n) t ps) = ExportsAlone ps
ExportsAlone ps = ⊥

abbrev pub SidesAlone : Parts Name Name → Type 0
SidesAlone none = Unit {0}
SidesAlone (part (import n) t ps) = SidesAlone ps
SidesAlone (part (export n) t ps) = SidesAlone ps
SidesAlone ps = ⊥

-- a core item, without parts
abbrev pub IsItem : Type_tree → Type 0
IsItem t = (e : EntityType) × (t ≡ node (core_item e) none)

abbrev pub ItemsAlone : Parts Name Name → Type 0
ItemsAlone none = Unit {0}
ItemsAlone (part (core_import m n) t ps) = IsItem t × ItemsAlone ps
ItemsAlone (part (core_export n) t ps) = IsItem t × ItemsAlone ps
ItemsAlone ps = ⊥

-- an instance has exports alone, a component imports and exports, a core module core items; both types of an entity are of one height
abbrev pub IsFormed : Head Name Name → Parts Name Name → Type 0
IsFormed (instance i own) ps = ExportsAlone ps
IsFormed (component i ins outs) ps = SidesAlone ps
IsFormed (core_module i n) ps = ItemsAlone ps
IsFormed type_entity (part k t (part l u none)) = height t ≡ height u
IsFormed type_entity ps = ⊥
IsFormed h ps = Unit {0}

abbrev pub Formed : Type_tree → Type 0
Formed t = EachNode IsFormed t

-- the height of what has the identity in an arena: a node by its place, a reference 1
abbrev pub node_height : Arena → Identity → ℕ
node_height a (of_node (number k)) = height (tree_in (trees a.nodes) k)
node_height a (of_node i) = 0
node_height a (of_reference r s) = 1

abbrev pub HeightByIdentity : Arena → Head Name Name → Parts Name Name → Type 0
HeightByIdentity a h ps = (i : Identity) → identity_at h ≡ Some i → suc (heights ps) ≡ node_height a i
