-- What opens the imports of a component.
use Rattle.std.specs.Prelude.{ℕ, List, [], map, Bool, true, false, cond, None, Some, All, Contains, ◌≡◌, ◌<◌}
use Rattle.std.specs.List.{IsDistinct}
use Rattle.std.specs.Map.{keys_of, lookup}
use Rattle.std.specs.Option.{option_map_or}
use Rattle.wcv_core.specs.CoreForm.{Group}
use Rattle.wcv_core.specs.Names.{Name, member}
use Rattle.wcv_types.specs.Arena.{Arena}
use Rattle.wcv_types.specs.Entities.{entity_tree, EntityStands}
use Rattle.wcv_types.specs.Identity.{Identity, same_identity}
use Rattle.wcv_types.specs.Rebuild.{same_sort}
use Rattle.wcv_types.specs.Standing.{Stands, identity_of}
use Rattle.wcv_types.specs.Tree.{Text, head, imported_at, sort}
use Rattle.wcv_types.specs.Unfold.{Type_tree, tree_at, trees}
use Rattle.wcv_types.specs.declared.ids.ComponentTypeId.{ComponentTypeId}
use Rattle.wcv_types.specs.declared.ids.Part.{Part}
use Rattle.wcv_types.specs.declared.ids.Part.TheVariants as p
use Rattle.wcv_types.specs.declared.ids.ResourceId.{ResourceId}
use Rattle.wcv_types.specs.declared.item_map.ComponentItem.{ComponentItem}
use Rattle.wcv_types.specs.declared.shapes.ComponentEntityType.{ComponentEntityType}
use Rattle.wcv_types.specs.declared.shapes.ComponentEntityType.TheVariants as entity
use Rattle.wcv_matching.specs.AtomTests.{id_tests}
use Rattle.wcv_matching.specs.GivenTypes.{given_by, given_for}
use Rattle.wcv_matching.specs.Matching.{Reading, named_imports}
use Rattle.wcv_matching.specs.NamedPaths.{entry}
use Rattle.wcv_matching.specs.Orderly.{EntitiesAlike}
use Rattle.wcv_matching.specs.OnePass.{Atom, each_passes, given, argument_for, match_below, match_pass}
use Rattle.wcv_remap.specs.Map.{Map, Sent, is_type, resources_by, same_part}
use Rattle.wcv_atoms.specs.Readings.{given_as}
use Rattle.wcv_remap.specs.Remap.{NotGiven}

-- arguments by name, with their trees
abbrev pub named_args : Arena → List (Text × ComponentEntityType) → List (Text × Type_tree)
named_args a es = map (λ e. (e.0, entity_tree (trees a.nodes) e.1)) es

abbrev pub ArgumentStands : Arena → Text × ComponentEntityType → Type 0
ArgumentStands a e = EntityStands a e.1

-- what the entry of that name gives for a type
abbrev pub given_under : List (Text × Type_tree) → Text → Type_tree → List (Identity × Type_tree)
given_under es n t = option_map_or (λ a. given_by a t) (entry n es) []

-- it is a type, or an instance in which types may stand
abbrev pub may_create : ComponentEntityType → Bool
may_create (entity.Ty c r) = true
may_create (entity.Instance i) = true
may_create x = false

-- the pass finds that the one matches the other, however both are read
pub record Passes (gs : List Group) (a b : Type_tree) : Type 0 where
  pub bound : ℕ
  pub level : ℕ
  pub left : Reading Atom
  pub right : Reading Atom
  pub passes : match_below (id_tests gs) bound level left right a b ≡ true

-- it is the argument for the import, and matches it, where the resources of the import are read so
pub record Fits (a : Arena) (f : Reading Atom) (args : List (Text × Type_tree)) (import : Text × ComponentItem) (x : ComponentEntityType) : Type 0 where
  pub stands : EntityStands a x
  pub found : entry import.0 args ≡ Some (entity_tree (trees a.nodes) x)
  pub passes : match_pass (id_tests a.core) 0 given f (entity_tree (trees a.nodes) x) (entity_tree (trees a.nodes) import.1.ty) ≡ true

-- a type goes to the one that the list gives first for its identity
pub record IsGiven (a : Arena) (ts : List (Identity × Type_tree)) (q : Part) (s : Sent) : Type 0 where
  pub given : s.given ≡ true
  pub stands : Stands a q
  pub goes : Stands a s.to
  pub inside : is_type q ≡ true
  pub tree : lookup (same_identity (identity_of q)) ts ≡ Some (tree_at a s.to)

-- the map has each type that the list gives, and no other
pub record Gives (a : Arena) (ts : List (Identity × Type_tree)) (m : Map) : Type 0 where
  pub each : (q : Part) (s : Sent) → Contains m.types (q, s) → IsGiven a ts q s
  pub others : (i : Identity) → NotGiven m i → lookup (same_identity i) ts ≡ None

-- the map sends each imported resource to that of its argument, and each type that an import creates to what the arguments give for it
pub record Opening (a : Arena) (args : List (Text × Type_tree)) (c : Type_tree) (m : Map) : Type 0 where
  pub resources : (r : Name) → resources_by m r ≡ cond (member r (imported_at (head c))) (Some (argument_for args c r)) None
  pub within : (r q : ResourceId) → Contains m.resources (r, q) → q.index < a.resources
  pub given : Gives a (given_for args (named_imports c)) m
  pub distinct : IsDistinct same_part (keys_of m.types)
  -- of its own sort, where this is so of both types of each type entity
  pub of_sort : All (λ e. EntitiesAlike e.1) args → All (λ e. EntitiesAlike e.1) (named_imports c) → (q : Part) (s : Sent) → Contains m.types (q, s) → same_sort q s.to ≡ true

-- so of arguments and a component of the arena
abbrev pub IsOpening : Arena → List (Text × ComponentEntityType) → ComponentTypeId → Map → Type 0
IsOpening a args component m = Opening a (named_args a args) (tree_at a (p.Component component)) m

-- the arguments pass, and the map has what they give for the imports, where the resources go as the list says
pub record OpensImports (a : Arena) (args imports : List (Text × Type_tree)) (fs : List (ResourceId × ResourceId)) (m : Map) : Type 0 where
  pub passes : each_passes (match_pass (id_tests a.core) 0 given (given_as fs)) args imports ≡ true
  pub resources : m.resources ≡ fs
  pub given : Gives a (given_for args imports) m
  pub distinct : IsDistinct same_part (keys_of m.types)
