-- The first paths to the resources of a set.
use Rattle.std.specs.Prelude.{ℕ, List, [], ◌∷◌, ◌++◌, Bool, true, false, cond, Option, Some, None, ◌≡◌, All}
use Rattle.std.specs.Map.{lookup}
use Rattle.std.specs.Option.{option_map}
use Rattle.wcv_core.specs.Names.{number}
use Rattle.wcv_types.specs.Arena.{Arena}
use Rattle.wcv_types.specs.FirstPath.{or_else, path_at, first_path}
use Rattle.wcv_types.specs.Sets.{same_resource, has_resource}
use Rattle.wcv_types.specs.Tree.{Extern_name}
use Rattle.wcv_types.specs.Unfold.{Type_tree, tree_in, trees}
use Rattle.wcv_types.specs.declared.ids.ComponentAnyTypeId.{ComponentAnyTypeId}
use Rattle.wcv_types.specs.declared.ids.ComponentAnyTypeId.TheVariants as any
use Rattle.wcv_types.specs.declared.ids.ResourceId.{ResourceId}

-- the resource with its path, where there is one
abbrev pub with_path : ResourceId → Option (List ℕ) → List (ResourceId × List ℕ)
with_path r None = []
with_path r (Some p) = (r, p) ∷ []

-- each resource that some path leads to, with its first path, in the order of the resources
abbrev pub explicit_paths : List ResourceId → List (Extern_name × Type_tree) → List (ResourceId × List ℕ)
explicit_paths [] es = []
explicit_paths (r ∷ rs) es = with_path r (first_path (number r.index) es) ++ explicit_paths rs es

-- ## Found so far

-- the path that was found to the resource
abbrev pub path_to : ResourceId → List (ResourceId × List ℕ) → Option (List ℕ)
path_to r ps = lookup (same_resource r) ps

-- a path to a resource of the set, behind the way that leads there
abbrev pub sought : List ResourceId → List ℕ → ResourceId → Option (List ℕ) → Option (List ℕ)
sought ids way r o = cond (has_resource ids r) (option_map (λ p. way ++ p) o) None

-- each resource of the set that had no path has its first one there, and all else is as it was
abbrev pub Finds : List ResourceId → List ℕ → (ResourceId → Option (List ℕ)) → List (ResourceId × List ℕ) → List (ResourceId × List ℕ) → Type 0
Finds ids way first old new = (r : ResourceId) → path_to r new ≡ or_else (path_to r old) (sought ids way r (first r))

-- no path leads to a resource of the set that has none yet from the nodes at these places
abbrev pub AllFound : Arena → List ResourceId → List ℕ → List (ResourceId × List ℕ) → Type 0
AllFound a ids ks ps = All (λ k. (r : ResourceId) → has_resource ids r ≡ true → path_to r ps ≡ None → path_at (number r.index) (tree_in (trees a.nodes) k) ≡ None) ks

-- ## Types

-- the type is that resource
abbrev pub is_type_of : ResourceId → ComponentAnyTypeId → Bool
is_type_of r (any.Resource q) = same_resource r q.resource
is_type_of r _ = false

-- a path ends at what it leads to
abbrev pub ends_at : Bool → Option (List ℕ)
ends_at leads = cond leads (Some []) None
