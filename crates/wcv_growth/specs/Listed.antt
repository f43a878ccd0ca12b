-- How a component type lists the resources that are free in its entries.
use Rattle.std.specs.List.{IsDistinct}
use Rattle.std.specs.Prelude.{ℕ, List, [], ◌++◌, true, All, Contains, ◌≡◌, ◌⊎◌}
use Rattle.wcv_core.specs.Names.{Name, same}
use Rattle.wcv_types.specs.Paths.{PathLeadsTo}
use Rattle.wcv_types.specs.Tree.{Head, component, firsts, head, imports, exports}
use Rattle.wcv_lower.specs.Ending.{is_free_among}
use Rattle.wcv_lower.specs.Trees.{Type_tree, Entries, tree_reader}

-- the resources that a component node imports, each with its path
abbrev pub imported_paths : Head Name Name → List (Name × List ℕ)
imported_paths (component i ins outs) = ins
imported_paths _ = []

-- those that it defines
abbrev pub defined_paths : Head Name Name → List (Name × List ℕ)
defined_paths (component i ins outs) = outs
defined_paths _ = []

-- the resource is listed with a path, which leads to it in the entries
abbrev pub IsListed : Name → List (Name × List ℕ) → Entries → Type 0
IsListed r rs es = (p : List ℕ) × Contains rs (r, p) × PathLeadsTo p r es

-- the component type imports the resource
abbrev pub IsImported : Name → Type_tree → Type 0
IsImported r t = IsListed r (imported_paths (head t)) (imports t)

-- it defines the resource
abbrev pub IsDefined : Name → Type_tree → Type 0
IsDefined r t = IsListed r (defined_paths (head t)) (exports t)

-- each resource that is free in its entries is imported or defined, and none is both
pub record ListsResources (t : Type_tree) : Type 0 where
  -- one that is free in an import is imported
  pub in_imports : (r : Name) → is_free_among tree_reader r (imports t) ≡ true → IsImported r t
  pub in_exports : (r : Name) → is_free_among tree_reader r (exports t) ≡ true → IsImported r t ⊎ IsDefined r t
  pub apart : (r : Name) → IsImported r t → IsDefined r t → ⊥
  -- no resource is listed twice
  pub once : IsDistinct same (firsts (imported_paths (head t) ++ defined_paths (head t)))

-- each resource that it lists has a path that leads to it: of an imported one in the imports, of a defined one in the exports
pub record EachPathLeads (t : Type_tree) : Type 0 where
  pub imported : All (λ (x : Name × List ℕ). PathLeadsTo x.1 x.0 (imports t)) (imported_paths (head t))
  pub defined : All (λ (x : Name × List ℕ). PathLeadsTo x.1 x.0 (exports t)) (defined_paths (head t))
