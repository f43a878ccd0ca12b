-- The causes at the end of a component, over ids, and what is found for its type.
use Rattle.std.specs.Prelude.{◌≡◌, ℕ, List, [], ◌∷◌, ◌++◌, map, Bool, true, false, cond, All, Option, Some}
use Rattle.std.specs.Map.{lookup}
use Rattle.std.specs.Option.{option_map}
use Rattle.wcv_core.specs.Names.{number}
use Rattle.wcv_core.specs.declared.core_types.ValType.{ValType}
use Rattle.wcv_core.specs.declared.error.ErrorKind.TheVariants as kind
use Rattle.wcv_types.specs.Arena.{Arena}
use Rattle.wcv_types.specs.ComponentTrees.{resource_path, ResourceStands}
use Rattle.wcv_types.specs.Entities.{entry_trees}
use Rattle.wcv_types.specs.FirstPath.{first_path}
use Rattle.wcv_types.specs.Sets.{same_resource}
use Rattle.wcv_types.specs.Sets as sets
use Rattle.wcv_types.specs.Unfold.{trees}
use Rattle.wcv_types.specs.declared.component_type.ComponentType.{ComponentType}
use Rattle.wcv_types.specs.declared.ids.ResourceId.{ResourceId}
use Rattle.wcv_lower.specs.Checks.{Checks, is_none}
use Rattle.wcv_lower.specs.Ending.{is_free_among, any_free, kept}
use Rattle.wcv_lower.specs.Trees.{Entries, tree_reader}
use Rattle.wcv_spaces.specs.Contents.{Contents, defined_resource}

-- ## One cause each

-- a defined resource is free in an import
abbrev pub import_checks : List (ResourceId × Option ValType) → Entries → Checks
import_checks ds es = (kind.ResourceScope, any_free tree_reader (map defined_resource ds) es) ∷ []

-- one that is free in an export has no path there
abbrev pub kept_checks : List (ResourceId × Option ValType) → Entries → Checks
kept_checks ds es = (kind.ResourceScope, is_none (kept tree_reader (map defined_resource ds) es)) ∷ []

-- ## What is kept

-- the path of a resource
abbrev pub path_of : ResourceId → List (ResourceId × List ℕ) → Option (List ℕ)
path_of r ps = lookup (same_resource r) ps

-- a resource that is free joins the paths with its own, and needs one
abbrev pub with_kept : Bool → ResourceId → Option (List ℕ) → List (ResourceId × List ℕ) → Option (List (ResourceId × List ℕ))
with_kept free r path ps = cond free (option_map (λ p. ps ++ (r, p) ∷ []) path) (Some ps)

-- the set has those resources that are free in the entries
abbrev pub HasFree : Entries → List ResourceId → Type 0
HasFree es rs = (r : ResourceId) → sets.has_resource rs r ≡ is_free_among tree_reader (number r.index) es

-- each of them stands with its first path, where it has one
abbrev pub HasFirst : Entries → List ResourceId → List (ResourceId × List ℕ) → Type 0
HasFirst es rs ps = (r : ResourceId) → sets.has_resource rs r ≡ true → path_of r ps ≡ first_path (number r.index) es

-- ## The type

-- the end has no cause, and those are the defined resources that the type keeps
pub record Ended (a : Arena) (s : Contents) (ps : List (ResourceId × List ℕ)) : Type 0 where
  pub free : any_free tree_reader (map defined_resource s.defined_resources) (entry_trees (trees a.nodes) s.imports) ≡ false
  pub kept : kept tree_reader (map defined_resource s.defined_resources) (entry_trees (trees a.nodes) s.exports) ≡ Some (map resource_path ps)
  pub stand : All (λ p. ResourceStands a p.0) ps

-- the type has what the state has for one, and those defined resources
pub record IsTypeOf (s : Contents) (ps : List (ResourceId × List ℕ)) (ty : ComponentType) : Type 0 where
  pub info : ty.info ≡ s.info
  pub imports : ty.imports ≡ s.imports
  pub exports : ty.exports ≡ s.exports
  pub imported : ty.imported_resources ≡ s.imported_resources
  pub defined : ty.defined_resources ≡ ps
