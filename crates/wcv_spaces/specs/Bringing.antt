-- Entities as they join imports or exports, with the resources that they introduce.
use Rattle.std.specs.Prelude.{ℕ, List, [], ◌∷◌, map, All, Bool, false, Option, Some, ◌≡◌, ◌≤◌, ◌⊎◌}
use Rattle.wcv_core.specs.Names.{Name, Place, number}
use Rattle.wcv_syntax.specs.declared.name.ComponentExternName.{ComponentExternName}
use Rattle.wcv_types.specs.Arena.{Arena}
use Rattle.wcv_types.specs.ComponentTrees.{resource_path, ResourceStands}
use Rattle.wcv_types.specs.Entities.{entity_tree, EntityStands}
use Rattle.wcv_types.specs.Paths.{IsTypeOf, IsWayTo, PathLeadsTo}
use Rattle.wcv_types.specs.Standing.{Extends}
use Rattle.wcv_types.specs.Tree.{exports}
use Rattle.wcv_types.specs.Unfold.{Type_tree, trees}
use Rattle.wcv_types.specs.declared.ids.ResourceId.{ResourceId}
use Rattle.wcv_types.specs.declared.shapes.ComponentEntityType.{ComponentEntityType}
use Rattle.wcv_lower.specs.Checks.{Checks, IsFree}
use Rattle.wcv_lower.specs.Context.{Side}
use Rattle.wcv_lower.specs.Entries.{extern_name, join_checks}
use Rattle.wcv_lower.specs.Given.{GivenNames, names_of, none_given, GivesAt}
use Rattle.wcv_lower.specs.Names.{Under}
use Rattle.wcv_lower.specs.Readers.{Maker, Brought}
use Rattle.wcv_lower.specs.Step.{brought_at, apply, enters}
use Rattle.wcv_lower.specs.Trees.{Tree_context, tree_reader, tree_maker}
use Rattle.wcv_spaces.specs.Contents.{Contents, context_of, stack_of}
use Rattle.wcv_spaces.specs.Looking.{introduced_id, has_resource, created_reference}
use Rattle.wcv_spaces.specs.Promises.{numbers_of, is_instance_entity}
use Rattle.wcv_spaces.specs.declared.new_entity.NewEntity.{NewEntity}

-- resources, each with a path
abbrev pub Paths : Type 0
Paths = List (ResourceId × List ℕ)

-- a path within an entity leads to the resource: the entity is a type of it, or an instance in whose exports the path goes on
abbrev pub LeadsWithin : List ℕ → Name → Type_tree → Type 0
LeadsWithin [] r t = IsTypeOf r t
LeadsWithin (k ∷ p) r t = IsWayTo r t × PathLeadsTo (k ∷ p) r (exports t)

-- what joins, as the rules have it
abbrev pub brought_new : Arena → NewEntity → Brought tree_reader
brought_new a n = record { entity = entity_tree (trees a.nodes) n.ty; resources = map resource_path n.resources }

-- it stands there: its resources are of the arena, and the path of each leads to it
pub record MayJoin (a : Arena) (n : NewEntity) : Type 0 where
  pub stands : EntityStands a n.ty
  pub resources : All (λ (r : ResourceId × List ℕ). ResourceStands a r.0) n.resources
  pub lead : All (λ (r : ResourceId × List ℕ). LeadsWithin r.1 (number r.0.index) (entity_tree (trees a.nodes) n.ty)) n.resources

-- none of the resources is in that list
abbrev pub AreNewIn : {X : Type 0} → List (ResourceId × X) → Paths → Type 0
AreNewIn ps rs = All (λ (r : ResourceId × List ℕ). has_resource r.0 ps ≡ false) rs

-- what joins of the entity at each place, by names that the arena gave: as it is, or of an instance type an instance
pub record EntityOpened (a b : Arena) (x : ComponentEntityType) (n : NewEntity) : Type 0 where
  pub grown : Extends a b
  pub core : b.core ≡ a.core
  pub given_names : Place → GivenNames
  pub given : (p : Place) → GivesAt (Under p) (numbers_of a) (numbers_of b) (given_names p)
  pub brought : (p : Place) → brought_at (tree_maker (names_of (given_names p)) p) (entity_tree (trees a.nodes) x) ≡ brought_new b n
  pub bare : is_instance_entity x ≡ false → (b ≡ a) × ((p : Place) → given_names p ≡ none_given)
  pub may_join : MayJoin b n
  -- each of its resources is the one that the entity introduces as it is, or was given since
  pub fresh : All (λ (r : ResourceId × List ℕ). (introduced_id x ≡ Some r.0) ⊎ (a.resources ≤ r.0.index)) n.resources
  pub created : created_reference n.ty ≡ created_reference x

-- what joins was found for an entry, in an arena that may have grown: what is brought at each place, by names that the arena gave, with no
-- cause
pub record Found (a b : Arena) (n : NewEntity) (looked : Maker tree_reader → Checks) (brings : Maker tree_reader → Option (Brought tree_reader)) : Type 0 where
  pub grown : Extends a b
  pub core : b.core ≡ a.core
  pub given_names : Place → GivenNames
  pub given : (p : Place) → GivesAt (Under p) (numbers_of a) (numbers_of b) (given_names p)
  pub brought : (p : Place) → brings (tree_maker (names_of (given_names p)) p) ≡ Some (brought_new b n)
  pub free : (p : Place) → IsFree (looked (tree_maker (names_of (given_names p)) p))
  pub may_join : MayJoin b n
  -- its resources are new
  pub fresh : All (λ (r : ResourceId × List ℕ). a.resources ≤ r.0.index) n.resources
  -- the stamp of a reference that it creates is
  pub stamped : All (λ q. a.stamps ≤ q.stamp) (created_reference n.ty)

-- it joined that side under a name, and has no cause
pub record HasJoined (limited : Bool) (d : Side) (a : Arena) (s s' : Contents) (n : ComponentExternName) (e : NewEntity) : Type 0 where
  pub entered : (outer : List Tree_context) → stack_of a s' outer ≡ apply (enters d (extern_name n) (brought_new a e)) (stack_of a s outer)
  pub free : IsFree (join_checks limited s.features d (extern_name n) (context_of a s) (entity_tree (trees a.nodes) e.ty))
  pub live : s'.spent ≡ false
