-- Component types by ids of an arena: which stand there, and their trees.
use Rattle.std.specs.Prelude.{◌<◌, List, length, map, All}
use Rattle.wcv_core.specs.Names.{Name, number}
use Rattle.wcv_types.specs.Tree.{component_type}
use Rattle.wcv_types.specs.Arena.{Arena}
use Rattle.wcv_types.specs.Entities.{entry_trees, EntryStands}
use Rattle.wcv_types.specs.Paths.{PathLeadsTo}
pub use Rattle.wcv_types.specs.Unfold.{resource_path}
use Rattle.wcv_types.specs.Unfold.{Type_tree, trees}
use Rattle.wcv_types.specs.declared.component_type.ComponentType.{ComponentType}
use Rattle.wcv_types.specs.declared.ids.ResourceId.{ResourceId}

-- the tree, over the trees of the nodes, under an identity
abbrev pub component_tree : List Type_tree → Name → ComponentType → Type_tree
component_tree ts i ty =
    component_type i (map resource_path ty.imported_resources) (map resource_path ty.defined_resources) (entry_trees ts ty.imports) (entry_trees ts ty.exports)

-- the tree of a component that is no node, under an identity that no node has
abbrev pub root_tree : Arena → ComponentType → Type_tree
root_tree a ty = component_tree (trees a.nodes) (number (length a.nodes)) ty

-- the arena gave the resource
abbrev pub ResourceStands : Arena → ResourceId → Type 0
ResourceStands a r = r.index < a.resources

-- each recorded path leads to its resource, in the imports or in the exports
pub record PathsLead (a : Arena) (ty : ComponentType) : Type 0 where
  pub imported : All (λ p. PathLeadsTo p.1 (number p.0.index) (entry_trees (trees a.nodes) ty.imports)) ty.imported_resources
  pub defined : All (λ p. PathLeadsTo p.1 (number p.0.index) (entry_trees (trees a.nodes) ty.exports)) ty.defined_resources

-- all that the type names is of the arena
pub record ComponentStands (a : Arena) (ty : ComponentType) : Type 0 where
  pub imports : All (EntryStands a) ty.imports
  pub exports : All (EntryStands a) ty.exports
  pub imported : All (λ p. ResourceStands a p.0) ty.imported_resources
  pub defined : All (λ p. ResourceStands a p.0) ty.defined_resources
