-- What contracts see of a state, and the context that it stands for.
use Rattle.std.specs.Prelude.{ℕ, suc, ◌+◌, ◌≡◌, List, [], ◌∷◌, ◌++◌, map, Bool, true, false, length, All, Option, Some, None}
use Rattle.wcv_core.specs.CoreGroups.{total}
use Rattle.wcv_core.specs.CoreSizes.{IsEntityWithin}
use Rattle.wcv_core.specs.CoreWritten.{Core_entry, sub_entry, module_entry}
use Rattle.wcv_core.specs.Names.{Name, number}
use Rattle.wcv_core.specs.declared.core_types.CoreTypeId.{CoreTypeId}
use Rattle.wcv_core.specs.declared.core_types.EntityType.{EntityType}
use Rattle.wcv_core.specs.declared.core_types.EntityType.TheVariants as item
use Rattle.wcv_core.specs.declared.core_types.GlobalType.{GlobalType}
use Rattle.wcv_core.specs.declared.core_types.MemoryType.{MemoryType}
use Rattle.wcv_core.specs.declared.core_types.TableType.{TableType}
use Rattle.wcv_core.specs.declared.core_types.ValType.{ValType}
use Rattle.wcv_core.specs.declared.core_types.ValType.TheVariants as val
use Rattle.wcv_core.specs.declared.features.WasmFeatures.{WasmFeatures}
use Rattle.wcv_types.specs.Arena.{Arena}
use Rattle.wcv_types.specs.Measure.{sizes, depths}
use Rattle.wcv_types.specs.Tree.{Text, Parts, none, entries, import, export}
use Rattle.wcv_types.specs.ComponentTrees.{resource_path, ResourceStands}
use Rattle.wcv_types.specs.Paths.{PathLeadsTo}
use Rattle.wcv_types.specs.Sets.{AllStand, identities}
use Rattle.wcv_types.specs.Entities.{any_part, entry_trees, SlotStands, EntryStands}
use Rattle.wcv_types.specs.Unfold.{Slot, at, both, core, slot_tree, value_slot, trees}
use Rattle.wcv_types.specs.declared.ids.ComponentAnyTypeId.{ComponentAnyTypeId}
use Rattle.wcv_types.specs.declared.ids.ComponentCoreInstanceTypeId.{ComponentCoreInstanceTypeId}
use Rattle.wcv_types.specs.declared.ids.ComponentCoreModuleTypeId.{ComponentCoreModuleTypeId}
use Rattle.wcv_types.specs.declared.ids.ComponentCoreTypeId.{ComponentCoreTypeId}
use Rattle.wcv_types.specs.declared.ids.ComponentCoreTypeId.TheVariants as core_type
use Rattle.wcv_types.specs.declared.ids.ComponentFuncTypeId.{ComponentFuncTypeId}
use Rattle.wcv_types.specs.declared.ids.ComponentInstanceTypeId.{ComponentInstanceTypeId}
use Rattle.wcv_types.specs.declared.ids.ComponentTypeId.{ComponentTypeId}
use Rattle.wcv_types.specs.declared.ids.Part.{Part}
use Rattle.wcv_types.specs.declared.ids.Part.TheVariants as part
use Rattle.wcv_types.specs.declared.ids.ResourceId.{ResourceId}
use Rattle.wcv_types.specs.declared.info.TypeInfo.{TypeInfo}
use Rattle.wcv_types.specs.declared.item_map.ComponentItem.{ComponentItem}
use Rattle.wcv_types.specs.declared.shapes.ComponentValType.{ComponentValType}
use Rattle.wcv_lower.specs.Step.{change_at}
use Rattle.wcv_lower.specs.Trees.{Type_tree, Tree_context, Tree_stack}
use Rattle.wcv_spaces.specs.declared.kind.ComponentKind.{ComponentKind}
use Rattle.wcv_spaces.specs.declared.kind.ComponentKind.TheVariants as kind
use Rattle.wcv_lower.specs.Checks.{Counts}
use Rattle.wcv_lower.specs.Context.{Kind, concrete, declares_instance, declares_component, Space, in_types, in_funcs, in_values, in_instances, in_components, Core_space, core_types, core_funcs, core_tags, core_modules, core_instances, core_memories, core_tables, core_globals, Side, importing, exporting}

-- the thirteen index spaces, with ids of the arena
pub record SpaceLists : Type 0 where
  pub core_types : List ComponentCoreTypeId
  pub core_funcs : List CoreTypeId
  pub core_tags : List CoreTypeId
  pub core_modules : List ComponentCoreModuleTypeId
  pub core_instances : List ComponentCoreInstanceTypeId
  pub core_memories : List MemoryType
  pub core_tables : List TableType
  pub core_globals : List GlobalType
  pub types : List ComponentAnyTypeId
  pub funcs : List ComponentFuncTypeId
  -- whether the value was used
  pub values : List (ComponentValType × Bool)
  pub instances : List ComponentInstanceTypeId
  pub components : List ComponentTypeId

-- an entry of a space
abbrev pub Id : Space → Type 0
Id in_types = ComponentAnyTypeId
Id in_funcs = ComponentFuncTypeId
Id in_values = ComponentValType × Bool
Id in_instances = ComponentInstanceTypeId
Id in_components = ComponentTypeId

abbrev pub Core_id : Core_space → Type 0
Core_id core_types = ComponentCoreTypeId
Core_id core_funcs = CoreTypeId
Core_id core_tags = CoreTypeId
Core_id core_modules = ComponentCoreModuleTypeId
Core_id core_instances = ComponentCoreInstanceTypeId
Core_id core_memories = MemoryType
Core_id core_tables = TableType
Core_id core_globals = GlobalType

abbrev pub ids : (k : Space) → SpaceLists → List (Id k)
ids in_types s = s.types
ids in_funcs s = s.funcs
ids in_values s = s.values
ids in_instances s = s.instances
ids in_components s = s.components

abbrev pub core_ids : (k : Core_space) → SpaceLists → List (Core_id k)
core_ids core_types s = s.core_types
core_ids core_funcs s = s.core_funcs
core_ids core_tags s = s.core_tags
core_ids core_modules s = s.core_modules
core_ids core_instances s = s.core_instances
core_ids core_memories s = s.core_memories
core_ids core_tables s = s.core_tables
core_ids core_globals s = s.core_globals

-- one more entry in a space of core items
abbrev pub push_core : (k : Core_space) → Core_id k → SpaceLists → SpaceLists
push_core core_types x s = record s { core_types = s.core_types ++ x ∷ [] }
push_core core_funcs x s = record s { core_funcs = s.core_funcs ++ x ∷ [] }
push_core core_tags x s = record s { core_tags = s.core_tags ++ x ∷ [] }
push_core core_modules x s = record s { core_modules = s.core_modules ++ x ∷ [] }
push_core core_instances x s = record s { core_instances = s.core_instances ++ x ∷ [] }
push_core core_memories x s = record s { core_memories = s.core_memories ++ x ∷ [] }
push_core core_tables x s = record s { core_tables = s.core_tables ++ x ∷ [] }
push_core core_globals x s = record s { core_globals = s.core_globals ++ x ∷ [] }

-- one more entry in a space
abbrev pub push_id : (k : Space) → Id k → SpaceLists → SpaceLists
push_id in_types x s = record s { types = s.types ++ x ∷ [] }
push_id in_funcs x s = record s { funcs = s.funcs ++ x ∷ [] }
push_id in_values x s = record s { values = s.values ++ x ∷ [] }
push_id in_instances x s = record s { instances = s.instances ++ x ∷ [] }
push_id in_components x s = record s { components = s.components ++ x ∷ [] }

abbrev pub Listed : Type 0
Listed = List (Text × ComponentItem)

pub record Contents : Type 0 where
  pub kind : ComponentKind
  pub features : WasmFeatures
  pub spaces : SpaceLists
  pub imports : Listed
  pub exports : Listed
  -- the resources that are imported, each with the path that leads to it in the imports
  pub imported_resources : List (ResourceId × List ℕ)
  -- those that are defined, each with its representation where that is known
  pub defined_resources : List (ResourceId × Option ValType)
  -- the types that are named for imports and for exports
  pub import_names : List ComponentAnyTypeId
  pub export_names : List ComponentAnyTypeId
  -- size and depth of what is being made
  pub info : TypeInfo
  -- the sizes of what was aliased into it from further out
  pub aliased : ℕ
  -- the type of the slots that canonical functions read and write, once one has said it
  pub context_type : Option ValType
  -- a start function was named
  pub started : Bool
  -- a call by `&mut` on the state was refused, or it was finished
  pub spent : Bool

-- one list for imports and one for exports
abbrev pub both_sides : {X : Type 0} → X → X → Side → X
both_sides a b importing = a
both_sides a b exporting = b

-- the value of a state has no function in it, so its sides are two fields
abbrev pub sides : Contents → Side → Listed
sides s = both_sides s.imports s.exports

abbrev pub names : Contents → Side → List ComponentAnyTypeId
names s = both_sides s.import_names s.export_names

abbrev pub empty_spaces : SpaceLists
empty_spaces = record {
  core_types = [];
  core_funcs = [];
  core_tags = [];
  core_modules = [];
  core_instances = [];
  core_memories = [];
  core_tables = [];
  core_globals = [];
  types = [];
  funcs = [];
  values = [];
  instances = [];
  components = [];
}

-- before the first item
abbrev pub empty_state : ComponentKind → WasmFeatures → Contents
empty_state k features = record {
  kind = k;
  features = features;
  spaces = empty_spaces;
  imports = [];
  exports = [];
  imported_resources = [];
  defined_resources = [];
  import_names = [];
  export_names = [];
  info = record { size = 1; depth = 1 };
  aliased = 0;
  context_type = None;
  started = false;
  spent = false;
}

-- one more resource that is defined
abbrev pub with_defined : ResourceId → Option ValType → Contents → Contents
with_defined r v s = record s { defined_resources = s.defined_resources ++ (r, v) ∷ [] }

-- the type of its slots is that
abbrev pub with_context_type : ValType → Contents → Contents
with_context_type v s = record s { context_type = Some v }

-- the values at these indices are used from here on
abbrev pub used_at : List ℕ → List (ComponentValType × Bool) → List (ComponentValType × Bool)
used_at [] vs = vs
used_at (k ∷ ks) vs = used_at ks (change_at k (λ v. (v.0, true)) vs)

abbrev pub with_uses : List ℕ → Contents → Contents
with_uses ks s = record s { spaces = record s.spaces { values = used_at ks s.spaces.values } }

-- a start function is named
abbrev pub with_start : Contents → Contents
with_start s = record s { started = true }

-- something of that size was aliased into it
abbrev pub with_charge : ℕ → Contents → Contents
with_charge n s = record s { aliased = s.aliased + n }

-- one more entry in a space
abbrev pub with_id : (k : Space) → Id k → Contents → Contents
with_id k x s = record s { spaces = push_id k x s.spaces }

-- one more entry in a space of core items
abbrev pub with_core : (k : Core_space) → Core_id k → Contents → Contents
with_core k x s = record s { spaces = push_core k x s.spaces }

-- one more core item, in the space of its sort
abbrev pub with_core_item : EntityType → Contents → Contents
with_core_item (item.Func t) s = with_core core_funcs t s
with_core_item (item.Table t) s = with_core core_tables t s
with_core_item (item.Memory m) s = with_core core_memories m s
with_core_item (item.Global g) s = with_core core_globals g s
with_core_item (item.Tag t) s = with_core core_tags t s

-- what an entry of the space of core types is to a group of core types
abbrev pub core_entry_of : ComponentCoreTypeId → Core_entry
core_entry_of (core_type.Sub i) = sub_entry i.index
core_entry_of (core_type.Module i) = module_entry

abbrev pub core_entries_of : Contents → List Core_entry
core_entries_of s = map core_entry_of s.spaces.core_types

-- one more core type, by its id
abbrev pub with_sub : Contents → ℕ → Contents
with_sub s i = with_core core_types (core_type.Sub (record { index = i })) s

-- the value at an index is not said to be used or not
abbrev pub unmarked : (k : Space) → Id k → Id k
unmarked in_types x = x
unmarked in_funcs x = x
unmarked in_values v = (v.0, false)
unmarked in_instances x = x
unmarked in_components x = x

-- the entries of a space, marks of use aside
abbrev pub entries_of : (k : Space) → SpaceLists → List (Id k)
entries_of k s = map (unmarked k) (ids k s)

-- a state after a call that was refused
abbrev pub spent : Contents → Contents
spent s = record s { spent = true }

-- a state of which the resources went into the type of what was read, and of which imports and exports may still be read
abbrev pub ended : Contents → Contents
ended s = record s { imported_resources = []; defined_resources = []; spent = true }

-- a state of which the imports, the exports and the resources went into the type of what was read
abbrev pub finished : Contents → Contents
finished s = record s { imports = []; exports = []; imported_resources = []; defined_resources = []; spent = true }

-- ## Trees

abbrev pub kind_of : ComponentKind → Kind
kind_of kind.Component = concrete
kind_of kind.InstanceType = declares_instance
kind_of kind.ComponentType = declares_component

-- what stands where an entry of a space stands
abbrev pub id_slot : (k : Space) → Id k → Slot
id_slot in_types x = both (any_part x) (any_part x)
id_slot in_funcs i = at (part.Func i)
id_slot in_values v = value_slot v.0
id_slot in_instances i = at (part.Instance i)
id_slot in_components i = at (part.Component i)

-- a core type, or the type of a core module
abbrev pub core_type_part : ComponentCoreTypeId → Part
core_type_part (core_type.Sub i) = part.Core i
core_type_part (core_type.Module i) = part.Module i

-- what stands where an entry of a core space stands
abbrev pub core_slot : (k : Core_space) → Core_id k → Slot
core_slot core_types i = at (core_type_part i)
core_slot core_funcs t = core (item.Func t)
core_slot core_tags t = core (item.Tag t)
core_slot core_modules i = at (part.Module i)
core_slot core_instances i = at (part.CoreInstance i)
core_slot core_memories m = core (item.Memory m)
core_slot core_tables t = core (item.Table t)
core_slot core_globals g = core (item.Global g)

-- the tree of an entry of a space
abbrev pub id_tree : List Type_tree → (k : Space) → Id k → Type_tree
id_tree ts k x = slot_tree ts (id_slot k x)

abbrev pub core_tree : List Type_tree → (k : Core_space) → Core_id k → Type_tree
core_tree ts k x = slot_tree ts (core_slot k x)

-- ## The context

abbrev pub defined_resource : ResourceId × Option ValType → Name × Option ValType
defined_resource d = (number d.0.index, d.1)

-- over the trees of the nodes
abbrev pub context_in : List Type_tree → Contents → Tree_context
context_in ts s = record {
  kind = kind_of s.kind;
  core = λ k. map (core_tree ts k) (core_ids k s.spaces);
  space = λ k. map (id_tree ts k) (ids k s.spaces);
  side = λ d. entry_trees ts (sides s d);
  imported = map resource_path s.imported_resources;
  defined = map defined_resource s.defined_resources;
  named = λ d. identities (names s d);
  size = s.info.size;
  depth = s.info.depth;
  aliased = s.aliased;
  context_type = s.context_type;
  used = map (λ v. v.1) s.spaces.values;
  started = s.started;
}

-- the context that the state stands for
abbrev pub context_of : Arena → Contents → Tree_context
context_of a s = context_in (trees a.nodes) s

-- the stack with it on top, where those are the contexts further out, over the arena's table of core types
abbrev pub stack_of : Arena → Contents → List Tree_context → Tree_stack
stack_of a s outer = record { top = context_of a s; outer = outer; groups = a.core }

-- what checks look at, over what the code keeps
abbrev pub counts_in : SpaceLists → (Side → Listed) → TypeInfo → Counts
counts_in spaces side info = record {
  core = λ k. length (core_ids k spaces);
  space = λ k. length (ids k spaces);
  side = λ d. length (side d);
  size = info.size;
  depth = info.depth;
}

abbrev pub counts_of : Contents → Counts
counts_of s = counts_in s.spaces (sides s) s.info

-- ## Ids stand

abbrev pub IdStands : Arena → (k : Space) → Id k → Type 0
IdStands a k x = SlotStands a (id_slot k x)

-- so of core items, which name core types of the table
abbrev pub CoreStands : Arena → Slot → Type 0
CoreStands a (core e) = IsEntityWithin (total a.core) e
CoreStands a l = SlotStands a l

abbrev pub CoreIdStands : Arena → (k : Core_space) → Core_id k → Type 0
CoreIdStands a k x = CoreStands a (core_slot k x)

-- a recorded path leads to its resource in the imports
abbrev pub LeadsToImport : Arena → Listed → ResourceId × List ℕ → Type 0
LeadsToImport a imports p = PathLeadsTo p.1 (number p.0.index) (entry_trees (trees a.nodes) imports)

-- the entries of both sides, as the parts of a component
abbrev pub side_parts : List Type_tree → Contents → Parts Name Name
side_parts ts s = entries import (entry_trees ts s.imports) (entries export (entry_trees ts s.exports) none)

-- size and depth are those of a component with these entries
pub record IsSized (ts : List Type_tree) (s : Contents) : Type 0 where
  -- 1 and the sizes of all entries
  pub size : s.info.size ≡ suc (sizes (side_parts ts s))
  -- 1 and the greatest of their depths
  pub depth : s.info.depth ≡ suc (depths (side_parts ts s))

-- what represents a resource, where that is known, is a number of 32 or of 64 bits
abbrev pub is_number : Option ValType → Bool
is_number None = true
is_number (Some val.I32) = true
is_number (Some val.I64) = true
is_number (Some v) = false

-- each id of the state stands in the arena, what represents a resource is a number, each recorded path leads
-- to its resource, and size and depth are those of the entries
pub record StateStands (a : Arena) (s : Contents) : Type 0 where
  pub space : (k : Space) → All (IdStands a k) (ids k s.spaces)
  pub core : (k : Core_space) → All (CoreIdStands a k) (core_ids k s.spaces)
  pub side : (d : Side) → All (EntryStands a) (sides s d)
  pub imported : All (λ (p : ResourceId × List ℕ). ResourceStands a p.0) s.imported_resources
  pub defined : All (λ (p : ResourceId × Option ValType). ResourceStands a p.0) s.defined_resources
  pub numbers : All (λ (p : ResourceId × Option ValType). is_number p.1 ≡ true) s.defined_resources
  pub named : (d : Side) → AllStand a (names s d)
  pub lead : All (LeadsToImport a s.imports) s.imported_resources
  pub sized : IsSized (trees a.nodes) s
