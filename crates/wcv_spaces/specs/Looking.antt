-- What is looked up in a state, over its ids.
use Rattle.wcv_core.specs.Limits.{max_entries, max_instances}
use Rattle.std.specs.Prelude.{ℕ, List, [], ◌∷◌, ◌++◌, map, ◌+◌, length, All, Bool, true, false, not, ◌&&◌, ◌||◌, cond, eqb, Option, Some, None, is_some, slice_get, bytes_eq, ◌≡◌}
use Rattle.std.specs.Map.{lookup}
use Rattle.std.specs.Option.{option_map, option_and_then}
use Rattle.wcv_core.specs.CoreGroups.{total}
use Rattle.wcv_core.specs.CoreSizes.{IsEntityWithin}
use Rattle.wcv_core.specs.declared.core_types.EntityType.{EntityType}
use Rattle.wcv_core.specs.declared.core_types.EntityType.TheVariants as item
use Rattle.wcv_core.specs.declared.core_types.ValType.{ValType}
use Rattle.wcv_core.specs.declared.error.ErrorKind.TheVariants as error
use Rattle.wcv_syntax.specs.declared.component_type.ComponentTypeRef.{ComponentTypeRef}
use Rattle.wcv_syntax.specs.declared.component_type.ComponentTypeRef.TheVariants as ref
use Rattle.wcv_syntax.specs.declared.component_type.TypeBounds.TheVariants as bounds
use Rattle.wcv_syntax.specs.declared.component_type.ComponentValType.{ComponentValType as Written_value}
use Rattle.wcv_syntax.specs.declared.component_type.ComponentValType.TheVariants.{Primitive, Ty}
use Rattle.wcv_syntax.specs.declared.core_section.ExternalKind.{ExternalKind}
use Rattle.wcv_syntax.specs.declared.core_section.ExternalKind.TheVariants as core_sorts
use Rattle.wcv_syntax.specs.declared.instance.ComponentExternalKind.{ComponentExternalKind}
use Rattle.wcv_syntax.specs.declared.instance.ComponentExternalKind.TheVariants as kind
use Rattle.wcv_syntax.specs.declared.name.ComponentExport.{ComponentExport}
pub use Rattle.wcv_names.specs.Externs.{entry_of, with_entry}
use Rattle.wcv_types.specs.Arena.{Arena}
use Rattle.wcv_types.specs.Renewed.{Renewed}
use Rattle.wcv_types.specs.Sets.{same_resource}
use Rattle.wcv_types.specs.Entities.{any_part, entity_tree}
use Rattle.wcv_types.specs.Unfold.{tree_at, trees}
use Rattle.wcv_types.specs.Tree.{Text, owned, Sort, is_value, is_resource, is_func, is_instance, is_component, is_type, is_module}
use Rattle.wcv_types.specs.declared.ids.AliasableResourceId.{AliasableResourceId}
use Rattle.wcv_types.specs.declared.ids.ComponentAnyTypeId.{ComponentAnyTypeId}
use Rattle.wcv_types.specs.declared.ids.ComponentAnyTypeId.TheVariants as any
use Rattle.wcv_types.specs.declared.ids.ComponentCoreInstanceTypeId.{ComponentCoreInstanceTypeId}
use Rattle.wcv_types.specs.declared.ids.ComponentCoreTypeId.{ComponentCoreTypeId}
use Rattle.wcv_types.specs.declared.ids.ComponentCoreTypeId.TheVariants as core_type
use Rattle.wcv_types.specs.declared.ids.Part.TheVariants as part
use Rattle.wcv_types.specs.declared.ids.ResourceId.{ResourceId}
use Rattle.wcv_types.specs.declared.item_map.ComponentItem.{ComponentItem}
use Rattle.wcv_types.specs.declared.shapes.ComponentValType.TheVariants as val
use Rattle.wcv_types.specs.declared.shapes.ComponentEntityType.{ComponentEntityType}
use Rattle.wcv_types.specs.declared.shapes.ComponentEntityType.TheVariants as entity
use Rattle.wcv_core.specs.declared.features.WasmFeatures.{WasmFeatures}
use Rattle.wcv_lower.specs.Checks.{Checks, IsFree, if_found, is_none, missing, missing_of}
use Rattle.wcv_matching.specs.ModuleItems.{instance_exports}
use Rattle.wcv_lower.specs.CoreInstances.{is_of}
use Rattle.wcv_lower.specs.Context.{Space, in_types, in_funcs, in_values, in_instances, in_components, Core_space, core_modules}
use Rattle.wcv_lower.specs.Defined.{is_empty}
use Rattle.wcv_lower.specs.Slots.{part_sort}
use Rattle.wcv_lower.specs.Trees.{tree_reader}
use Rattle.wcv_core.specs.Features.{cm_values}
use Rattle.wcv_lower.specs.Values.{lacks, primitive_checks}
use Rattle.wcv_spaces.specs.Contents.{SpaceLists, core_type_part, Id, Core_id, push_id, push_core}

-- ## Types by index

-- the sort of a type
abbrev pub any_sort : ComponentAnyTypeId → Sort
any_sort x = part_sort (any_part x)

abbrev pub func_entity : ComponentAnyTypeId → Option ComponentEntityType
func_entity (any.Func i) = Some (entity.Func i)
func_entity _ = None

abbrev pub instance_entity : ComponentAnyTypeId → Option ComponentEntityType
instance_entity (any.Instance i) = Some (entity.Instance i)
instance_entity _ = None

abbrev pub component_entity : ComponentAnyTypeId → Option ComponentEntityType
component_entity (any.Component i) = Some (entity.Component i)
component_entity _ = None

-- the sort of a core type
abbrev pub core_sort : ComponentCoreTypeId → Sort
core_sort x = part_sort (core_type_part x)

abbrev pub module_entity : ComponentCoreTypeId → Option ComponentEntityType
module_entity (core_type.Module i) = Some (entity.Module i)
module_entity _ = None

-- ## Written types

abbrev pub value_entity : ComponentAnyTypeId → Option ComponentEntityType
value_entity (any.Defined i) = Some (entity.Value (val.Ty i))
value_entity _ = None

-- the entity of a written value type
abbrev pub value_id : SpaceLists → Written_value → Option ComponentEntityType
value_id s (Primitive p) = Some (entity.Value (val.Primitive p))
value_id s (Ty k) = option_and_then value_entity (slice_get s.types k)

-- the entity of a written type that makes nothing: of an instance type that type
abbrev pub written_id : SpaceLists → ComponentTypeRef → Option ComponentEntityType
written_id s (ref.Module k) = option_and_then module_entity (slice_get s.core_types k)
written_id s (ref.Func k) = option_and_then func_entity (slice_get s.types k)
written_id s (ref.Instance k) = option_and_then instance_entity (slice_get s.types k)
written_id s (ref.Component k) = option_and_then component_entity (slice_get s.types k)
written_id s (ref.Value v) = value_id s v
written_id s (ref.Ty b) = None

abbrev pub value_id_checks : WasmFeatures → SpaceLists → Written_value → Checks
value_id_checks fs s (Primitive p) = primitive_checks fs p
value_id_checks fs s (Ty k) = missing_of is_value (option_map any_sort (slice_get s.types k))

abbrev pub written_id_checks : WasmFeatures → SpaceLists → ComponentTypeRef → Checks
written_id_checks fs s (ref.Module k) = missing_of is_module (option_map core_sort (slice_get s.core_types k))
written_id_checks fs s (ref.Func k) = missing_of is_func (option_map any_sort (slice_get s.types k))
written_id_checks fs s (ref.Instance k) = missing_of is_instance (option_map any_sort (slice_get s.types k))
written_id_checks fs s (ref.Component k) = missing_of is_component (option_map any_sort (slice_get s.types k))
written_id_checks fs s (ref.Ty (bounds.Eq k)) = missing (slice_get s.types k)
written_id_checks fs s (ref.Ty bounds.SubResource) = []
written_id_checks fs s (ref.Value v) = lacks fs cm_values ++ value_id_checks fs s v

-- ## Items

-- the item of the sort at the index, as an entity: of a type both nodes are the one that stands there
abbrev pub item_id : SpaceLists → ComponentExternalKind → ℕ → Option ComponentEntityType
item_id s kind.Module k = option_map entity.Module (slice_get s.core_modules k)
item_id s kind.Func k = option_map entity.Func (slice_get s.funcs k)
item_id s kind.Ty k = option_map (λ r. entity.Ty r r) (slice_get s.types k)
item_id s kind.Instance k = option_map entity.Instance (slice_get s.instances k)
item_id s kind.Component k = option_map entity.Component (slice_get s.components k)
item_id s kind.Value k = option_map (λ v. entity.Value v.0) (slice_get s.values k)

abbrev pub item_id_checks : SpaceLists → ComponentExternalKind → ℕ → Checks
item_id_checks s kind.Module k = missing (slice_get s.core_modules k)
item_id_checks s kind.Func k = missing (slice_get s.funcs k)
item_id_checks s kind.Ty k = missing (slice_get s.types k)
item_id_checks s kind.Instance k = missing (slice_get s.instances k)
item_id_checks s kind.Component k = missing (slice_get s.components k)
item_id_checks s kind.Value k = missing (slice_get s.values k)

-- ## Core items

-- the core item of the sort at the index
abbrev pub core_item_in : SpaceLists → ExternalKind → ℕ → Option EntityType
core_item_in s core_sorts.Func k = option_map item.Func (slice_get s.core_funcs k)
core_item_in s core_sorts.Table k = option_map item.Table (slice_get s.core_tables k)
core_item_in s core_sorts.Memory k = option_map item.Memory (slice_get s.core_memories k)
core_item_in s core_sorts.Global k = option_map item.Global (slice_get s.core_globals k)
core_item_in s core_sorts.Tag k = option_map item.Tag (slice_get s.core_tags k)

-- the core instance at the index exports that item under that name, and it is of the sort
pub record AliasFinds (a : Arena) (s : SpaceLists) (k : ExternalKind) (i : ℕ) (n : Text) (e : EntityType) : Type 0 where
  pub instance : ComponentCoreInstanceTypeId
  pub at : slice_get s.core_instances i ≡ Some instance
  pub export : lookup (bytes_eq n) (instance_exports (tree_at a (part.CoreInstance instance))) ≡ Some e
  pub sort : is_of k e ≡ true
  pub within : IsEntityWithin (total a.core) e

-- ## Types that an entity creates

-- the resource that an entity introduces: a reference to it is both of its types
abbrev pub introduced_by : ComponentAnyTypeId → ComponentAnyTypeId → Option ResourceId
introduced_by (any.Resource q) (any.Resource r) = cond (eqb q.resource.index r.resource.index && eqb q.stamp r.stamp) (Some q.resource) None
introduced_by _ _ = None

abbrev pub introduced_id : ComponentEntityType → Option ResourceId
introduced_id (entity.Ty c r) = introduced_by c r
introduced_id _ = None

-- a type is created again, from one that stands there
abbrev pub CreatesAgain : Arena → Arena → Option ComponentAnyTypeId → ComponentEntityType → Type 0
CreatesAgain a b None x = ⊥
CreatesAgain a b (Some r) x = (c : ComponentAnyTypeId) × Renewed a b r c × (x ≡ entity.Ty c r)

-- a resource and a reference to it are made
pub record MakesResource (a b : Arena) (x : ComponentEntityType) : Type 0 where
  pub id : AliasableResourceId
  pub is : id ≡ record { resource = record { index = a.resources }; stamp = a.stamps }
  pub arena : b ≡ record a { resources = a.resources + 1; stamps = a.stamps + 1 }
  pub entity : x ≡ entity.Ty (any.Resource id) (any.Resource id)

-- what a written type gives, from the first arena to the second
abbrev pub GivesWritten : Arena → Arena → SpaceLists → ComponentTypeRef → ComponentEntityType → Type 0
GivesWritten a b s (ref.Ty (bounds.Eq k)) x = CreatesAgain a b (slice_get s.types k) x
GivesWritten a b s (ref.Ty bounds.SubResource) x = MakesResource a b x
GivesWritten a b s r x = (b ≡ a) × (written_id s r ≡ Some x)

-- what an exported item gives, where no type is written
abbrev pub GivesExported : Arena → Arena → SpaceLists → ComponentExternalKind → ℕ → ComponentEntityType → Type 0
GivesExported a b s kind.Ty k x = CreatesAgain a b (slice_get s.types k) x
GivesExported a b s w k x = (b ≡ a) × (item_id s w k ≡ Some x)

-- the entity brings resources of its own where it joins: of an instance type those that it owns
abbrev pub brings_own : Arena → ComponentEntityType → Bool
brings_own a (entity.Instance i) = not (is_empty (owned (tree_at a (part.Instance i))))
brings_own a x = is_some (introduced_id x)

-- the item does not match what is written beside it, or that brings resources of its own
abbrev pub ascribed_id_checks : Arena → ComponentEntityType → ComponentEntityType → Checks
ascribed_id_checks a y x = (error.Mismatch, not (not (brings_own a x) && tree_reader.matches a.core (entity_tree (trees a.nodes) y) (entity_tree (trees a.nodes) x))) ∷ []

-- what the written type gives, and the item at the index has that type
pub record GivesAscribed (a b : Arena) (fs : WasmFeatures) (s : SpaceLists) (w : ComponentExternalKind) (k : ℕ) (r : ComponentTypeRef) (x : ComponentEntityType) : Type 0 where
  pub item : ComponentEntityType
  pub at : item_id s w k ≡ Some item
  pub written : GivesWritten a b s r x
  pub looked : IsFree (written_id_checks fs s r)
  pub free : IsFree (ascribed_id_checks b item x)

-- what an export gives, with the type that is written beside its item
abbrev pub GivesItem : Arena → Arena → WasmFeatures → SpaceLists → ComponentExport → Option ComponentTypeRef → ComponentEntityType → Type 0
GivesItem a b fs s e None x = GivesExported a b s e.kind e.index x
GivesItem a b fs s e (Some r) x = GivesAscribed a b fs s e.kind e.index r x

-- ## Entries

-- the sort of an entity
abbrev pub entity_sort : ComponentEntityType → Sort
entity_sort (entity.Module i) = is_module
entity_sort (entity.Func i) = is_func
entity_sort (entity.Value v) = is_value
entity_sort (entity.Ty c r) = is_type
entity_sort (entity.Instance i) = is_instance
entity_sort (entity.Component i) = is_component

-- an entry of a space, or of a core space
pub data New_id : Type 0 where
  own_id : (k : Space) → Id k → New_id
  core_id : (k : Core_space) → Core_id k → New_id

-- the space that an entity joins, and its entry there: a value counts as used from the start or not
abbrev pub entity_id : Bool → ComponentEntityType → New_id
entity_id used (entity.Module i) = core_id core_modules i
entity_id used (entity.Func i) = own_id in_funcs i
entity_id used (entity.Value v) = own_id in_values (v, used)
entity_id used (entity.Ty c r) = own_id in_types c
entity_id used (entity.Instance i) = own_id in_instances i
entity_id used (entity.Component i) = own_id in_components i

abbrev pub enter_id : New_id → SpaceLists → SpaceLists
enter_id (own_id k x) s = push_id k x s
enter_id (core_id k x) s = push_core k x s

-- how many stand with it, which its space limits together
abbrev pub entity_count : SpaceLists → ComponentEntityType → ℕ
entity_count s (entity.Module i) = length s.core_modules
entity_count s (entity.Func i) = length s.core_funcs + length s.funcs
entity_count s (entity.Ty c r) = length s.types
entity_count s (entity.Instance i) = length s.core_instances + length s.instances
entity_count s (entity.Component i) = length s.components
entity_count s (entity.Value v) = length s.values

-- how many may
abbrev pub entity_limit : ComponentEntityType → ℕ
entity_limit (entity.Module i) = max_instances
entity_limit (entity.Instance i) = max_instances
entity_limit (entity.Component i) = max_instances
entity_limit (entity.Value v) = max_instances
entity_limit _ = max_entries

-- the spaces after an entity
abbrev pub entered : Bool → ComponentEntityType → SpaceLists → SpaceLists
entered used x s = enter_id (entity_id used x) s

-- with its path in the entity
abbrev pub introduced_in : Option ResourceId → List (ResourceId × List ℕ)
introduced_in None = []
introduced_in (Some r) = (r, []) ∷ []

-- the list has the resource
abbrev pub has_resource : {X : Type 0} → ResourceId → List (ResourceId × X) → Bool
has_resource r [] = false
has_resource r (p ∷ ps) = eqb r.index p.0.index || has_resource r ps

-- the reference that an entity creates, to which its entry gives a name
abbrev pub created_reference : ComponentEntityType → List AliasableResourceId
created_reference (entity.Ty (any.Resource q) r) = q ∷ []
created_reference _ = []

-- the references that entries name, in order
abbrev pub named_ids : List (Text × ComponentItem) → List (AliasableResourceId × Text)
named_ids [] = []
named_ids (e ∷ es) = map (λ q. (q, e.0)) (created_reference e.1.ty) ++ named_ids es

abbrev pub has_name : AliasableResourceId → List (AliasableResourceId × Text) → Bool
has_name q [] = false
has_name q (p ∷ ps) = (eqb q.resource.index p.0.resource.index && eqb q.stamp p.0.stamp) || has_name q ps

-- the reference that an entity creates has no name among the entries
abbrev pub IsUnnamedIn : List (Text × ComponentItem) → ComponentEntityType → Type 0
IsUnnamedIn es x = All (λ q. has_name q (named_ids es) ≡ false) (created_reference x)

-- ## Representations

abbrev pub any_resource : ComponentAnyTypeId → Option ResourceId
any_resource (any.Resource r) = Some r.resource
any_resource _ = None

-- the resource of the type at the index
abbrev pub resource_in : List ComponentAnyTypeId → ℕ → Option ResourceId
resource_in xs k = option_and_then any_resource (slice_get xs k)

-- the representation of a resource, where it is defined with one
abbrev pub rep_of : List (ResourceId × Option ValType) → ResourceId → Option ValType
rep_of ds r = option_and_then (λ v. v) (lookup (same_resource r) ds)

-- the resource at the index and its representation
abbrev pub local_rep : List ComponentAnyTypeId → List (ResourceId × Option ValType) → ℕ → Option (ResourceId × ValType)
local_rep xs ds k = option_and_then (λ r. option_map (λ v. (r, v)) (rep_of ds r)) (resource_in xs k)

-- no resource is there, or one that is not defined with a representation
abbrev pub local_rep_checks : List ComponentAnyTypeId → List (ResourceId × Option ValType) → ℕ → Checks
local_rep_checks xs ds k = missing_of is_resource (option_map any_sort (slice_get xs k)) ++ if_found (λ r. (error.ResourceScope, is_none (rep_of ds r)) ∷ []) (resource_in xs k)
