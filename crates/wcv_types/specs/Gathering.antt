-- Free resources, gathered in a set.
use Rattle.std.specs.Prelude.{ℕ, List, [], ◌∷◌, ◌++◌, All, Contains, true, ◌≡◌, ◌⊎◌}
use Rattle.wcv_core.specs.Names.{Name, member}
use Rattle.wcv_types.specs.Arena.{Arena}
use Rattle.wcv_types.specs.Resources.{Free}
use Rattle.wcv_types.specs.Sets.{resource_names}
use Rattle.wcv_types.specs.Tree.{Extern_name}
use Rattle.wcv_types.specs.Unfold.{Type_tree, tree_at, tree_in, trees}
use Rattle.wcv_types.specs.declared.ids.Part.{Part}
use Rattle.wcv_types.specs.declared.ids.ResourceId.{ResourceId}

-- what was there, and maybe more behind it
abbrev pub Continues : List ResourceId → List ResourceId → Type 0
Continues old new = (more : List ResourceId) × (new ≡ old ++ more)

-- the set has what it had, and each resource of which P holds, and no other
pub record Gains (P : Name → Type 0) (old new : List ResourceId) : Type 0 where
  pub keeps : Continues old new
  pub all : (r : Name) → P r → member r (resource_names new) ≡ true
  pub only : (r : Name) → member r (resource_names new) ≡ true → (member r (resource_names old) ≡ true) ⊎ P r

-- the resource is free in one of the entries
abbrev pub FreeAmong : List (Extern_name × Type_tree) → Name → Type 0
FreeAmong [] r = ⊥
FreeAmong (e ∷ es) r = Free r e.1 ⊎ FreeAmong es r

-- or in one of the types
abbrev pub FreeInSome : Arena → Name → List Part → Type 0
FreeInSome a r qs = (q : Part) × Contains qs q × Free r (tree_at a q)

-- what is free in each of the nodes at these places is in the set
abbrev pub AllGathered : Arena → List ℕ → List ResourceId → Type 0
AllGathered a ks rs = All (λ k. (r : Name) → Free r (tree_in (trees a.nodes) k) → member r (resource_names rs) ≡ true) ks

-- these are the sets of what is free in the nodes at these places
abbrev pub AllKnown : Arena → List (ℕ × List ResourceId) → Type 0
AllKnown a ks = All (λ k. Gains (λ r. Free r (tree_in (trees a.nodes) k.0)) [] k.1) ks
