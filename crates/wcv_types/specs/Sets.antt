-- Sets of identities of types, and of resources.
use Rattle.std.specs.Prelude.{ℕ, List, [], ◌∷◌, ◌++◌, map, Bool, false, cond, eqb, ◌&&◌, All, is_some}
use Rattle.std.specs.List.{list_any}
use Rattle.std.specs.Map.{lookup}
use Rattle.wcv_types.specs.Arena.{Arena}
use Rattle.wcv_types.specs.Entities.{any_part}
use Rattle.wcv_types.specs.Identity.{Identity}
use Rattle.wcv_types.specs.Standing.{Stands, identity_of}
pub use Rattle.wcv_types.specs.Unfold.{resource_names}
use Rattle.wcv_types.specs.declared.ids.ComponentAnyTypeId.{ComponentAnyTypeId}
use Rattle.wcv_types.specs.declared.ids.ComponentAnyTypeId.TheVariants as any
use Rattle.wcv_types.specs.declared.ids.ResourceId.{ResourceId}

-- ## Types

abbrev pub same_type : ComponentAnyTypeId → ComponentAnyTypeId → Bool
same_type (any.Resource q) (any.Resource r) = eqb q.resource.index r.resource.index && eqb q.stamp r.stamp
same_type (any.Defined i) (any.Defined j) = eqb i.index j.index
same_type (any.Func i) (any.Func j) = eqb i.index j.index
same_type (any.Instance i) (any.Instance j) = eqb i.index j.index
same_type (any.Component i) (any.Component j) = eqb i.index j.index
same_type _ _ = false

abbrev pub has_type : List ComponentAnyTypeId → ComponentAnyTypeId → Bool
has_type ids id = list_any (same_type id) ids

-- the set with that id, which it may have already
abbrev pub with_type : List ComponentAnyTypeId → ComponentAnyTypeId → List ComponentAnyTypeId
with_type ids id = cond (has_type ids id) ids (ids ++ id ∷ [])

-- all of them are of the arena
abbrev pub AllStand : Arena → List ComponentAnyTypeId → Type 0
AllStand a ids = All (λ id. Stands a (any_part id)) ids

abbrev pub identities : List ComponentAnyTypeId → List Identity
identities ids = map (λ id. identity_of (any_part id)) ids

-- ## Places of nodes

abbrev pub has_place : List ℕ → ℕ → Bool
has_place ks k = list_any (eqb k) ks

-- the set with that place, which it may have already
abbrev pub with_place : List ℕ → ℕ → List ℕ
with_place ks k = cond (has_place ks k) ks (ks ++ k ∷ [])

-- the sets by places with one more, which the place may have already
abbrev pub with_set : {A : Type 0} → List (ℕ × A) → ℕ → A → List (ℕ × A)
with_set fs k x = cond (is_some (lookup (eqb k) fs)) fs (fs ++ (k, x) ∷ [])

-- ## Resources

abbrev pub same_resource : ResourceId → ResourceId → Bool
same_resource q r = eqb q.index r.index

abbrev pub has_resource : List ResourceId → ResourceId → Bool
has_resource rs r = list_any (same_resource r) rs

-- the set with that resource, which it may have already
abbrev pub with_resource : List ResourceId → ResourceId → List ResourceId
with_resource rs r = cond (has_resource rs r) rs (rs ++ r ∷ [])
