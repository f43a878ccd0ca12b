-- What types need to be named beside a set.
use Rattle.std.specs.Prelude.{ℕ, List, [], ◌∷◌, ◌++◌, Bool, true, cond, ◌&&◌, ◌≡◌, All}
use Rattle.wcv_types.specs.Arena.{Arena}
use Rattle.wcv_types.specs.Identity.{Identity}
use Rattle.wcv_types.specs.Named.{is_in, is_named, passes}
use Rattle.wcv_types.specs.Sets.{has_type, with_type, AllStand, identities}
use Rattle.wcv_types.specs.Unfold.{trees, tree_in}
use Rattle.wcv_types.specs.declared.ids.ComponentAnyTypeId.{ComponentAnyTypeId}

-- each of the second list stands in the first
abbrev pub are_in : List Identity → List Identity → Bool
are_in ids [] = true
are_in ids (i ∷ is) = is_in ids i && are_in ids is

-- identities, and those of two sets
abbrev pub beside : List Identity → List ComponentAnyTypeId → List ComponentAnyTypeId → List Identity
beside ids created set = ids ++ (identities created ++ identities set)

-- the set with that type, unless it was created
abbrev pub with_beyond : List ComponentAnyTypeId → List ComponentAnyTypeId → ComponentAnyTypeId → List ComponentAnyTypeId
with_beyond created needed id = cond (has_type created id) needed (with_type needed id)

-- any identities have all of the new set where they have all of the old one and meet the test
pub record Needs (a : Arena) (test : List Identity → Bool) (old new : List ComponentAnyTypeId) : Type 0 where
  pub stand : AllStand a new
  pub same : (ids : List Identity) → are_in ids (identities new) ≡ (are_in ids (identities old) && test ids)

-- these are the sets of what the nodes at these places need to pass, beside a set
abbrev pub AllNeeded : Arena → List ComponentAnyTypeId → List (ℕ × List ComponentAnyTypeId) → Type 0
AllNeeded a set ks = All (λ k. Needs a (λ ids. passes (ids ++ identities set) (tree_in (trees a.nodes) k.0)) [] k.1) ks

-- each of the nodes at these places is named beside what was created and a set, by any identities that have all that is needed
abbrev pub AllSeen : Arena → List ComponentAnyTypeId → List ComponentAnyTypeId → List ComponentAnyTypeId → List ℕ → Type 0
AllSeen a created set needed ks = All (λ k. (ids : List Identity) → are_in ids (identities needed) ≡ true → is_named (beside ids created set) (tree_in (trees a.nodes) k) ≡ true) ks
