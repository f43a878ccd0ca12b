-- What stands in a context as items make it, which the laws of agreement ask. It is said of types, and of values by their types.
use Rattle.std.specs.Prelude.{ℕ, List, [], All, Contains, cond, Some, ◌≡◌, ◌⊎◌}
use Rattle.std.specs.Map.{lookup}
use Rattle.wcv_core.specs.CoreForm.{Group}
use Rattle.wcv_core.specs.CoreGroups.{total}
use Rattle.wcv_core.specs.CoreSizes.{IsEntityWithin}
use Rattle.wcv_core.specs.Names.{Name, same}
use Rattle.wcv_core.specs.declared.core_types.ValType.{ValType}
use Rattle.wcv_closed.specs.CoreModules.{AllServed, ModuleMatches}
use Rattle.wcv_syntax.specs.ModuleTypes.{Module_type}
use Rattle.wcv_syntax.specs.declared.component_type.ComponentTypeRef.{ComponentTypeRef}
use Rattle.wcv_syntax.specs.declared.core_section.InstantiationArg.{InstantiationArg}
use Rattle.wcv_syntax.specs.declared.name.ComponentExport.{ComponentExport}
use Rattle.wcv_types.specs.Resources.{Free}
use Rattle.wcv_types.specs.Tree.{Sort, is_value, is_func, is_instance, is_component, is_type, is_module, is_core_instance, is_core_type, is_core_item, none, sort, parts, owned}
use Rattle.wcv_types.specs.Unfold.{Type_tree}
use Rattle.wcv_matching.specs.ModuleItems.{ItemsMatch}
use Rattle.wcv_matching.specs.TableMatching.{TypeMatches}
use Rattle.wcv_lower.specs.Context.{Context, Space, in_types, in_funcs, in_values, in_instances, in_components, Core_space, core_types, core_modules, core_instances}
use Rattle.wcv_lower.specs.CoreInstances.{core_module_at, offered}
use Rattle.wcv_lower.specs.Entries.{exported_at, written}
use Rattle.wcv_lower.specs.Owned.{AllEntries, IsOwn}
use Rattle.wcv_lower.specs.Readers.{Reader, Maker, Brought}
use Rattle.wcv_lower.specs.Trees.{Tree_context, Tree_stack, tree_reader}
use Rattle.wcv_lower.specs.Values.{resource_at}
use Rattle.wcv_world.specs.Growth.{Tokens}
use Rattle.wcv_world.specs.Reading.{Value_stack, value_reader}
use Rattle.wcv_world.specs.Values.{type_over}
use Rattle.wcv_safety.specs.Clean.{AllAlike}

-- the sort of what stands in a space
abbrev pub sort_in : Space → Sort
sort_in in_types = is_type
sort_in in_funcs = is_func
sort_in in_values = is_value
sort_in in_instances = is_instance
sort_in in_components = is_component

-- among the core types stand the types of core modules too
abbrev pub HasSortIn : Core_space → Sort → Type 0
HasSortIn core_types k = (k ≡ is_core_type) ⊎ (k ≡ is_module)
HasSortIn core_modules k = k ≡ is_module
HasSortIn core_instances k = k ≡ is_core_instance
HasSortIn _ k = k ≡ is_core_item

-- of each entry of a context the type: of the sort of its space, an instance owns nothing, both types of each type entity inside are alike,
-- and core items are of the table
pub record StandsInOrder {X : Reader} (type_of : X.Entry → Type_tree) (gs : List Group) (c : Context X) : Type 0 where
  pub sorted : (k : Space) → All (λ x. sort (type_of x) ≡ sort_in k) (c.space k)
  pub core_sorted : (k : Core_space) → All (λ x. HasSortIn k (sort (type_of x))) (c.core k)
  pub bare : All (λ x. owned (type_of x) ≡ []) (c.space in_instances)
  pub alike : (k : Space) → All (λ x. AllAlike gs (type_of x)) (c.space k)
  -- what core modules import and core instances export is of the table
  pub asked : All (λ x. All (λ i. IsEntityWithin (total gs) i.1) (tree_reader.core_imports (type_of x))) (c.core core_modules)
  pub offered : All (λ x. All (λ e. IsEntityWithin (total gs) e.1) (tree_reader.core_exports (type_of x))) (c.core core_instances)

-- among the core types of a context further out stand core types and the types of core modules
abbrev pub AreCoreTypes : Tree_context → Type 0
AreCoreTypes c = All (λ (t : Type_tree). HasSortIn core_types (sort t)) (c.core core_types)

-- so on top of both stacks, with the table of the values
pub record BothStand (v : Value_stack) (s : Tree_stack) : Type 0 where
  pub values : StandsInOrder {X = value_reader} type_over v.groups v.top
  pub types : StandsInOrder {X = tree_reader} (λ t. t) v.groups s.top
  pub around : All AreCoreTypes s.outer

-- what a core module imports and exports matches itself, as it does where no name stands twice
abbrev pub MatchesItself : List Group → Module_type → Type 0
MatchesItself gs m = ModuleMatches (ItemsMatch gs) (record { imports = m.imports; exports = m.exports }) (record { imports = m.imports; exports = m.exports })

-- the arguments of a core instance serve what its module imports, as they do where that has no cause
abbrev pub CoreArgumentsServe : List Group → Tree_context → ℕ → List InstantiationArg → Type 0
CoreArgumentsServe gs c i args = (m : Type_tree) → core_module_at c i ≡ Some m → AllServed (ItemsMatch gs) (offered c args) (tree_reader.core_imports m)

-- where a type is written beside an exported item, the item matches it, and it brings no resource
abbrev pub AscribedMatches : List Group → Maker tree_reader → Tree_context → ComponentExport → Type 0
AscribedMatches gs mk c e =
    (r : ComponentTypeRef) (x : Type_tree) (b : Brought tree_reader) → e.ty ≡ Some r → exported_at c e ≡ Some x → written mk c r ≡ Some b → (b.resources ≡ []) × TypeMatches gs x b.entity × AllAlike gs b.entity

-- ## Resources with a representation

-- each token that has a representation is found with it
abbrev pub RepresentedOnce : Tokens → Type 0
RepresentedOnce ts = (r : Name) (x : ValType) → Contains ts (r, Some x) → lookup (λ q. same q r) ts ≡ Some (Some x)

-- a resource type is a reference, without parts
abbrev pub ResourcesAlone : Tree_context → Type 0
ResourcesAlone c = (k : ℕ) (t : Type_tree) → resource_at c k ≡ Some t → parts t ≡ none

-- ## What is new

-- the resource is free in no entry of the context, which neither imports nor defines it
pub record IsNewTo (r : Name) (c : Tree_context) : Type 0 where
  pub entries : AllEntries (λ t. Free r t → ⊥) c
  pub own : IsOwn c r → ⊥

-- so in each open context
pub record IsNewIn (s : Tree_stack) (r : Name) : Type 0 where
  pub top : IsNewTo r s.top
  pub outer : All (IsNewTo r) s.outer

-- the substitution, with that resource read as a token
abbrev pub with_token : (Name → Name) → Name → Name → Name → Name
with_token g r token x = cond (same x r) token (g x)
