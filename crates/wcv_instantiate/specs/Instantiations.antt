-- Instances that are made of components, whose imports arguments open.
use Rattle.std.specs.Prelude.{suc, List, [], All, None, true, false, map, ◌≡◌, ◌≤◌, ◌<◌}
use Rattle.std.specs.List.{IsDistinct}
use Rattle.std.specs.Map.{keys_of, lookup}
use Rattle.wcv_core.specs.Names.{Name, Place, member}
use Rattle.wcv_types.specs.Arena.{Arena}
use Rattle.wcv_types.specs.ByName.{NamesDiffer}
use Rattle.wcv_types.specs.ComponentTrees.{resource_path}
use Rattle.wcv_types.specs.Entities.{entry_trees, EntryStands}
use Rattle.wcv_types.specs.Identity.{Identity, same_identity}
use Rattle.wcv_types.specs.Replacing.{Replacement}
use Rattle.wcv_types.specs.Sets.{same_resource}
use Rattle.wcv_types.specs.Standing.{Stands}
use Rattle.wcv_types.specs.Tree.{Text, exports, firsts, head, imported_at, owned}
use Rattle.wcv_types.specs.Unfold.{Type_tree, tree_at, trees}
use Rattle.wcv_types.specs.declared.ids.ComponentTypeId.{ComponentTypeId}
use Rattle.wcv_types.specs.declared.ids.Part.TheVariants as p
use Rattle.wcv_types.specs.declared.shapes.ComponentEntityType.{ComponentEntityType}
use Rattle.wcv_matching.specs.GivenTypes.{given_for}
use Rattle.wcv_matching.specs.Matching.{named_imports}
use Rattle.wcv_matching.specs.OnePass.{made_paths}
use Rattle.wcv_matching.specs.SameTypes.{made_at}
use Rattle.wcv_remap.specs.Hygiene.{Hygienic}
use Rattle.wcv_subtype.specs.Openings.{named_args}
use Rattle.wcv_matching.specs.Orderly.{EntitiesAlike}
use Rattle.wcv_lower.specs.Given.{GivenNames, names_of, GivesAt}
use Rattle.wcv_lower.specs.Names.{Under}
use Rattle.wcv_lower.specs.Owned.{OwnsApart}
use Rattle.wcv_lower.specs.Readers.{Brought}
use Rattle.wcv_lower.specs.Trees.{tree_maker, tree_reader}
use Rattle.wcv_instantiate.specs.Opening.{entry_rank}
use Rattle.wcv_spaces.specs.Promises.{numbers_of}
use Rattle.wcv_instantiate.specs.declared.instances.NewInstance.{NewInstance}
use Rattle.wcv_instantiate.specs.declared.instances.Opened.{Opened}

-- ## What may be instantiated

-- the types that are given come in the places of others, and no resource in that of another
abbrev pub given_alone : List (Identity × Type_tree) → Replacement
given_alone gs = record { resources = λ r. None; nodes = λ i. lookup (same_identity i) gs; again = λ i. i }

-- an instance may be made of the component by those arguments
pub record MayInstantiate (args : List (Text × Type_tree)) (c : Type_tree) : Type 0 where
  -- what it owns, no type inside it owns
  pub owned : OwnsApart c
  -- what a type in its exports owns, no type inside mentions in whose place another is given
  pub given : All (λ e. Hygienic (given_alone (given_for args (named_imports c))) e.1) (exports c)
  -- no resource is both imported and defined
  pub apart : (r : Name) → member r (made_at (head c)) ≡ true → member r (imported_at (head c)) ≡ false
  -- both types of each type entity in the arguments, and in the imports, are of one sort
  pub args_alike : All (λ e. EntitiesAlike e.1) args
  pub imports_alike : All (λ e. EntitiesAlike e.1) (named_imports c)

-- ## The component

-- what it exports, and the resources that it defines, each with its path
pub record IsExporter (a : Arena) (i : ComponentTypeId) (o : Opened) : Type 0 where
  pub made : made_paths (head (tree_at a (p.Component i))) ≡ map resource_path o.owned
  pub exports : exports (tree_at a (p.Component i)) ≡ entry_trees (trees a.nodes) o.exports
  pub stand : All (EntryStands a) o.exports
  pub apart : NamesDiffer o.exports
  pub before : All (λ e. entry_rank e < suc i.index) o.exports
  pub distinct : IsDistinct same_resource (keys_of o.owned)

-- ## The instance

-- what the new instance brings
abbrev pub brought_of : Arena → NewInstance → Brought tree_reader
brought_of a m = record { entity = tree_at a (p.Instance m.ty); resources = map resource_path m.resources }

-- what is at hand is an instance of the component at each place, by names that the arena gave, where the arguments open it
pub record ComponentInstanceMade (a b : Arena) (args : List (Text × ComponentEntityType)) (c : ComponentTypeId) (m : NewInstance) : Type 0 where
  pub given_names : Place → GivenNames
  pub given : (q : Place) → GivesAt (Under q) (numbers_of a) (numbers_of b) (given_names q)
  pub brought : (q : Place) → (tree_maker (names_of (given_names q)) q).instantiate (named_args a args) (tree_at a (p.Component c)) ≡ brought_of b m
  pub stands : Stands b (p.Instance m.ty)
  -- it owns nothing itself
  pub alone : owned (tree_at b (p.Instance m.ty)) ≡ []
  -- each of the resources stood nowhere before, and none is there twice
  pub fresh : All (λ r. a.resources ≤ r.0.index) m.resources
  pub below : All (λ r. r.0.index < b.resources) m.resources
  pub distinct : IsDistinct same_resource (firsts m.resources)
  pub core : b.core ≡ a.core
