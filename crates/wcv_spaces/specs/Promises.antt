-- What the calls on a state promise.
use Rattle.std.specs.Prelude.{ℕ, List, [], ◌++◌, Bool, true, false, Some, length, ◌≡◌}
pub use Rattle.wcv_core.specs.Checks.{CausedBy, MemoryOrCausedBy}
use Rattle.wcv_core.specs.Names.{Name, Place}
use Rattle.wcv_core.specs.declared.error.Error.{Error}
use Rattle.wcv_core.specs.declared.core_types.ValType.{ValType}
use Rattle.wcv_core.specs.declared.features.WasmFeatures.{WasmFeatures}
use Rattle.wcv_syntax.specs.Model.{Form}
use Rattle.wcv_syntax.specs.declared.component_type.ComponentTypeRef.{ComponentTypeRef}
use Rattle.wcv_syntax.specs.declared.name.ComponentExport.{ComponentExport}
use Rattle.wcv_syntax.specs.declared.name.ComponentExternName.{ComponentExternName}
use Rattle.wcv_types.specs.Arena.{Arena}
use Rattle.wcv_types.specs.ByName.{NamesDiffer}
use Rattle.wcv_types.specs.ComponentTrees.{component_tree, ComponentStands, PathsLead}
use Rattle.wcv_types.specs.Entities.{entity_tree, EntityStands}
use Rattle.wcv_types.specs.Measure as measure
use Rattle.wcv_types.specs.Standing.{Extends, with_node}
use Rattle.wcv_types.specs.Tree.{owned}
use Rattle.wcv_types.specs.Unfold.{trees}
use Rattle.wcv_types.specs.declared.arena.Node.TheVariants as n
use Rattle.wcv_types.specs.declared.component_type.ComponentType.{ComponentType}
use Rattle.wcv_types.specs.declared.ids.ComponentTypeId.{ComponentTypeId}
use Rattle.wcv_types.specs.declared.ids.ResourceId.{ResourceId}
use Rattle.wcv_types.specs.declared.shapes.ComponentEntityType.{ComponentEntityType}
use Rattle.wcv_types.specs.declared.shapes.ComponentEntityType.TheVariants as entity
use Rattle.wcv_lower.specs.Checks.{Checks, IsFree}
use Rattle.wcv_lower.specs.Context.{Space, Core_space, Side, exporting}
use Rattle.wcv_lower.specs.Declared.{applied, declared_export_step, declared_export_checks}
use Rattle.wcv_lower.specs.Ending.{type_at_end, end_checks}
use Rattle.wcv_lower.specs.Entries.{extern_name, join_checks, written, written_checks, exported, exported_checks}
use Rattle.wcv_lower.specs.Given.{GivenNames, names_of, none_given, both_given, Numbers, GivesAt}
use Rattle.wcv_lower.specs.Growth.{grow, call_checks}
use Rattle.wcv_lower.specs.Names.{Under}
use Rattle.wcv_lower.specs.Owned.{IsLed}
use Rattle.wcv_lower.specs.Readers.{Maker}
use Rattle.wcv_lower.specs.Step.{brought_at, apply, enters}
use Rattle.wcv_lower.specs.Trees.{Tree_context, tree_reader, tree_maker, node_tree}
use Rattle.wcv_spaces.specs.Contents.{Contents, SpaceLists, core_ids, entries_of, sides, names, context_of, stack_of, StateStands}
use Rattle.wcv_spaces.specs.Looking.{introduced_id, has_resource, IsUnnamedIn}

-- how many resources, nodes and stamps the arena has given
abbrev pub numbers_of : Arena → Numbers
numbers_of a = record { resources = a.resources; nodes = length a.nodes; stamps = a.stamps }

-- xs is a prefix of ys
abbrev pub IsPrefix : {X : Type 0} → List X → List X → Type 0
IsPrefix {X} xs ys = (more : List X) × (ys ≡ xs ++ more)

-- the old entries of each index space still stand, in order, marks of use aside
pub record KeepsEntries (s s' : SpaceLists) : Type 0 where
  pub space : (k : Space) → IsPrefix (entries_of k s) (entries_of k s')
  pub core : (k : Core_space) → IsPrefix (core_ids k s) (core_ids k s')

-- whatever a call answers, the arena only grew, the ids stand, the lists only grew, the kind and the features stay, and so does the type of
-- slots once it is said
pub record Keeps (a a' : Arena) (s s' : Contents) : Type 0 where
  pub arena : Extends a a'
  pub stands : StateStands a' s'
  pub entries : KeepsEntries s.spaces s'.spaces
  pub sides : (d : Side) → IsPrefix (sides s d) (sides s' d)
  pub imported : IsPrefix s.imported_resources s'.imported_resources
  pub defined : IsPrefix s.defined_resources s'.defined_resources
  pub named : (d : Side) → IsPrefix (names s d) (names s' d)
  pub kind : s'.kind ≡ s.kind
  pub features : s'.features ≡ s.features
  pub context_type : (v : ValType) → s.context_type ≡ Some v → s'.context_type ≡ Some v

-- the call was refused, out of memory or by such a cause, and the state is spent
abbrev pub RefusesBy : {M : Type 0} → Checks → Contents → ℕ → Error M → Type 0
RefusesBy cs s' offset e = (s'.spent ≡ true) × MemoryOrCausedBy cs offset e

-- ## Items

-- the state grew by the item at that place, by names that the arena gave, and it has no cause that the call looks at, in the contexts further out
pub record Grew (a a' : Arena) (outer : List Tree_context) (p : Place) (s s' : Contents) (f : Form) : Type 0 where
  pub names : GivenNames
  pub given : GivesAt (Under p) (numbers_of a) (numbers_of a') names
  pub grown : grow s.features (tree_maker (names_of names) p) (stack_of a s outer) f ≡ Some (stack_of a' s' outer)
  pub free : IsFree (call_checks s.features (tree_maker (names_of names) p) (stack_of a s outer) f)
  pub live : s'.spent ≡ false

-- the error is out of memory, or a cause of the item at that place by names that the arena gave
pub record CausedAt {M : Type 0} (a a' : Arena) (outer : List Tree_context) (p : Place) (s : Contents) (f : Form) (offset : ℕ) (e : Error M) : Type 0 where
  pub names : GivenNames
  pub given : GivesAt (Under p) (numbers_of a) (numbers_of a') names
  pub caused : MemoryOrCausedBy (call_checks s.features (tree_maker (names_of names) p) (stack_of a s outer) f) offset e

-- the call was refused so, and the state is spent
abbrev pub Refuses : {M : Type 0} → Arena → Arena → List Tree_context → Place → Contents → Contents → Form → ℕ → Error M → Type 0
Refuses a a' outer p s s' f offset e = (s'.spent ≡ true) × CausedAt a a' outer p s f offset e

-- ## Parts of items

-- an instance type
abbrev pub is_instance_entity : ComponentEntityType → Bool
is_instance_entity (entity.Instance i) = true
is_instance_entity x = false

-- if it is an instance, it owns no resource
abbrev pub EntityAlone : Arena → ComponentEntityType → Type 0
EntityAlone a x = is_instance_entity x ≡ true → owned (entity_tree (trees a.nodes) x) ≡ []

-- the entity is what the written type gives at that place, by names that the arena gave, whatever names are given behind them, and there
-- is no cause. An instance type is the one that stands there: what it owns is made new where it joins
pub record WrittenEntity (a a' : Arena) (p : Place) (s : Contents) (r : ComponentTypeRef) (x : ComponentEntityType) : Type 0 where
  pub names : GivenNames
  pub given : GivesAt (Under p) (numbers_of a) (numbers_of a') names
  pub brings : (more : GivenNames) → let mk : Maker tree_reader = tree_maker (names_of (both_given names more)) p in written mk (context_of a s) r ≡ Some (brought_at mk (entity_tree (trees a'.nodes) x))
  pub instance : is_instance_entity x ≡ true → names ≡ none_given
  pub free : IsFree (written_checks s.features (context_of a s) r)
  pub stands : EntityStands a' x
  pub core : a'.core ≡ a.core

-- so of an exported item: of an instance, one is made where it joins
pub record Exported (a a' : Arena) (p : Place) (s : Contents) (e : ComponentExport) (x : ComponentEntityType) : Type 0 where
  pub names : GivenNames
  pub given : GivesAt (Under p) (numbers_of a) (numbers_of a') names
  pub brings : (more : GivenNames) → let mk : Maker tree_reader = tree_maker (names_of (both_given names more)) p in exported mk (context_of a s) e ≡ Some (brought_at mk (entity_tree (trees a'.nodes) x))
  pub instance : is_instance_entity x ≡ true → names ≡ none_given
  pub free : (more : GivenNames) → IsFree (exported_checks s.features a.core (tree_maker (names_of (both_given names more)) p) (context_of a s) e)
  pub stands : EntityStands a' x
  pub core : a'.core ≡ a.core

-- the error is out of memory, or a cause of it at that place by names that the arena gave
pub record ItemCaused {M : Type 0} (a a' : Arena) (p : Place) (s : Contents) (e : ComponentExport) (offset : ℕ) (x : Error M) : Type 0 where
  pub names : GivenNames
  pub given : GivesAt (Under p) (numbers_of a) (numbers_of a') names
  pub caused : MemoryOrCausedBy (exported_checks s.features a.core (tree_maker (names_of names) p) (context_of a s) e) offset x

-- the causes of an entity that joins the exports under a name, where the number of exports is looked at if `limited` says so. They look at
-- what joins, of an instance type at its instance
abbrev pub export_checks : Bool → WasmFeatures → Maker tree_reader → Arena → Tree_context → ComponentExternName → ComponentEntityType → Checks
export_checks limited fs mk a c n x =
    join_checks limited fs exporting (extern_name n) c (brought_at mk (entity_tree (trees a.nodes) x)).entity

-- a resource that the entity introduces is neither imported nor defined
pub record IntroducesNew (s : Contents) (x : ComponentEntityType) : Type 0 where
  pub imported : (r : ResourceId) → introduced_id x ≡ Some r → has_resource r s.imported_resources ≡ false
  pub defined : (r : ResourceId) → introduced_id x ≡ Some r → has_resource r s.defined_resources ≡ false

-- the entity may be handed to the call by which it joins the exports
pub record MayJoinExports (a : Arena) (s : Contents) (x : ComponentEntityType) : Type 0 where
  pub entity : EntityStands a x
  pub introduced : IntroducesNew s x
  -- a reference that it creates has no name among the exports
  pub unnamed : IsUnnamedIn s.exports x

-- the entity joined the exports at that place, by names that the arena gave, in the contexts further out, and has no cause that the call
-- looks at. Where it is no instance type, it joined as it is
pub record Entered (limited : Bool) (a a' : Arena) (outer : List Tree_context) (p : Place) (s s' : Contents) (n : ComponentExternName) (x : ComponentEntityType) : Type 0 where
  pub names : GivenNames
  pub given : GivesAt (Under p) (numbers_of a) (numbers_of a') names
  pub entered : stack_of a' s' outer ≡ apply (enters exporting (extern_name n) (brought_at (tree_maker (names_of names) p) (entity_tree (trees a.nodes) x))) (stack_of a s outer)
  pub bare : is_instance_entity x ≡ false → names ≡ none_given
  pub free : IsFree (export_checks limited s.features (tree_maker (names_of names) p) a (context_of a s) n x)
  -- if a path led to each defined resource in the exports, one does again
  pub led : IsLed (context_of a s) → IsLed (context_of a' s')
  pub live : s'.spent ≡ false

-- the error is out of memory, or a cause of the entity at that place by names that the arena gave
pub record EntryCaused {M : Type 0} (limited : Bool) (a a' : Arena) (p : Place) (s : Contents) (n : ComponentExternName) (x : ComponentEntityType) (offset : ℕ) (e : Error M) : Type 0 where
  pub names : GivenNames
  pub given : GivesAt (Under p) (numbers_of a) (numbers_of a') names
  pub bare : is_instance_entity x ≡ false → names ≡ none_given
  pub caused : MemoryOrCausedBy (export_checks limited s.features (tree_maker (names_of names) p) a (context_of a s) n x) offset e

-- a declared export of that written type was read at that place, by names that the arena gave, and has no cause
pub record ExportDeclared (a a' : Arena) (outer : List Tree_context) (p : Place) (s s' : Contents) (n : ComponentExternName) (r : ComponentTypeRef) : Type 0 where
  pub names : GivenNames
  pub given : GivesAt (Under p) (numbers_of a) (numbers_of a') names
  pub read : applied (stack_of a s outer) (declared_export_step (tree_maker (names_of names) p) (context_of a s) n r) ≡ Some (stack_of a' s' outer)
  pub free : IsFree (declared_export_checks s.features (tree_maker (names_of names) p) (context_of a s) n r)

-- the error is out of memory, or a cause of it
pub record ExportCaused {M : Type 0} (a a' : Arena) (p : Place) (s : Contents) (n : ComponentExternName) (r : ComponentTypeRef) (offset : ℕ) (e : Error M) : Type 0 where
  pub names : GivenNames
  pub given : GivesAt (Under p) (numbers_of a) (numbers_of a') names
  pub caused : MemoryOrCausedBy (declared_export_checks s.features (tree_maker (names_of names) p) (context_of a s) n r) offset e

-- the component type is the arena's next node, of that id
abbrev pub AddsComponent : Arena → Arena → ComponentType → ComponentTypeId → Type 0
AddsComponent a b ty id = (b ≡ with_node a (n.Component ty)) × (id.index ≡ length a.nodes)

-- the type of what was read is that of the context at its end, under any identity, and there is no cause
pub record Finished (a : Arena) (s : Contents) (ty : ComponentType) : Type 0 where
  pub info : ty.info ≡ s.info
  -- which are the size and the depth of the type's tree
  pub size : (i : Name) → ty.info.size ≡ measure.size (component_tree (trees a.nodes) i ty)
  pub depth : (i : Name) → ty.info.depth ≡ measure.depth (component_tree (trees a.nodes) i ty)
  pub imports : ty.imports ≡ s.imports
  pub exports : ty.exports ≡ s.exports
  pub tree : (i : Name) → type_at_end (node_tree i) (context_of a s) ≡ Some (component_tree (trees a.nodes) i ty)
  pub free : IsFree (end_checks (context_of a s))
  pub stands : ComponentStands a ty
  pub lead : PathsLead a ty
  -- the names differ in its imports, and in its exports
  pub apart : NamesDiffer ty.imports × NamesDiffer ty.exports
