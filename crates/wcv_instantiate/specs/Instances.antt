-- Instances that are made of instance types, where one is imported or exported.
use Rattle.std.specs.Prelude.{List, [], All, map, ◌≡◌, ◌≤◌, ◌<◌}
use Rattle.std.specs.List.{IsDistinct}
use Rattle.wcv_core.specs.Names.{Place, number}
use Rattle.wcv_syntax.specs.declared.component_type.ComponentTypeRef.{ComponentTypeRef}
use Rattle.wcv_syntax.specs.declared.component_type.ComponentTypeRef.TheVariants as ref
use Rattle.wcv_syntax.specs.declared.instance.ComponentExternalKind.{ComponentExternalKind}
use Rattle.wcv_syntax.specs.declared.instance.ComponentExternalKind.TheVariants as kind
use Rattle.wcv_syntax.specs.declared.name.ComponentExport.{ComponentExport}
use Rattle.wcv_types.specs.Arena.{Arena}
use Rattle.wcv_types.specs.ComponentTrees.{resource_path}
use Rattle.wcv_types.specs.Paths.{PathLeadsTo}
use Rattle.wcv_types.specs.Sets.{same_resource}
use Rattle.wcv_types.specs.Standing.{Stands}
use Rattle.wcv_types.specs.Tree.{exports, firsts, owned}
use Rattle.wcv_types.specs.Unfold.{tree_at}
use Rattle.wcv_types.specs.declared.ids.ComponentAnyTypeId.{ComponentAnyTypeId}
use Rattle.wcv_types.specs.declared.ids.ComponentAnyTypeId.TheVariants as any
use Rattle.wcv_types.specs.declared.ids.ComponentInstanceTypeId.{ComponentInstanceTypeId}
use Rattle.wcv_types.specs.declared.ids.Part.TheVariants as part
use Rattle.wcv_types.specs.declared.shapes.ComponentEntityType.{ComponentEntityType}
use Rattle.wcv_types.specs.declared.shapes.ComponentEntityType.TheVariants as entity
use Rattle.std.specs.Prelude.{ℕ, Option, Some, None, slice_get}
use Rattle.wcv_lower.specs.Given.{GivenNames, names_of, none_given, GivesAt}
use Rattle.wcv_lower.specs.Names.{Under}
use Rattle.wcv_lower.specs.Owned.{OwnsApart}
use Rattle.wcv_lower.specs.Trees.{tree_maker}
use Rattle.wcv_spaces.specs.Promises.{numbers_of}
use Rattle.wcv_instantiate.specs.declared.instances.NewInstance.{NewInstance}

-- what is at hand is an instance of the type at each place, by names that the arena gave: what the type owns is new, each with the
-- first path to it, and what mentions that was made again
pub record InstanceMade (a b : Arena) (i : ComponentInstanceTypeId) (m : NewInstance) : Type 0 where
  pub given_names : Place → GivenNames
  pub given : (p : Place) → GivesAt (Under p) (numbers_of a) (numbers_of b) (given_names p)
  pub brought : (p : Place) → (tree_maker (names_of (given_names p)) p).instance_of (tree_at a (part.Instance i)) ≡ record { entity = tree_at b (part.Instance m.ty); resources = map resource_path m.resources }
  pub stands : Stands b (part.Instance m.ty)
  -- it owns nothing itself
  pub alone : owned (tree_at b (part.Instance m.ty)) ≡ []
  -- each of the resources stood nowhere before, and none is there twice
  pub fresh : All (λ r. a.resources ≤ r.0.index) m.resources
  pub below : All (λ r. r.0.index < b.resources) m.resources
  pub distinct : IsDistinct same_resource (firsts m.resources)
  pub lead : All (λ r. PathLeadsTo r.1 (number r.0.index) (exports (tree_at b (part.Instance m.ty)))) m.resources
  pub core : b.core ≡ a.core
  -- a type that owns nothing is its own instance, and nothing is made
  pub same : owned (tree_at a (part.Instance i)) ≡ [] → (b ≡ a) × (m.ty ≡ i) × (m.resources ≡ []) × ((p : Place) → given_names p ≡ none_given)

-- an instance may be made of the instance type that is written there, if one is: what it owns, no type inside it owns
abbrev pub MayOpen : Arena → List ComponentAnyTypeId → ComponentTypeRef → Type 0
MayOpen a types (ref.Instance k) = (i : ComponentInstanceTypeId) → slice_get types k ≡ Some (any.Instance i) → OwnsApart (tree_at a (part.Instance i))
MayOpen a types r = Unit {0}

-- so of an instance that is exported without a written type
abbrev pub MayOpenItem : Arena → List ComponentInstanceTypeId → ComponentExternalKind → ℕ → Option ComponentTypeRef → Type 0
MayOpenItem a instances kind.Instance k None = (i : ComponentInstanceTypeId) → slice_get instances k ≡ Some i → OwnsApart (tree_at a (part.Instance i))
MayOpenItem a instances w k o = Unit {0}

abbrev pub ItemMayOpen : Arena → List ComponentInstanceTypeId → ComponentExport → Type 0
ItemMayOpen a instances e = MayOpenItem a instances e.kind e.index e.ty

-- so of an entity
abbrev pub EntityMayOpen : Arena → ComponentEntityType → Type 0
EntityMayOpen a (entity.Instance i) = OwnsApart (tree_at a (part.Instance i))
EntityMayOpen a x = Unit {0}
