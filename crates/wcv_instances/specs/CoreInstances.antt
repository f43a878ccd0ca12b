-- Core instances over the ids of a state.
use Rattle.std.specs.Prelude.{ℕ, List, [], ◌∷◌, ◌++◌, map, not, Some, slice_get, ◌≡◌}
use Rattle.wcv_core.specs.Names.{number}
use Rattle.wcv_core.specs.declared.core_types.EntityType.{EntityType}
use Rattle.wcv_core.specs.declared.error.Error.{Error}
use Rattle.wcv_core.specs.declared.error.ErrorKind.TheVariants as kind
use Rattle.wcv_core.specs.declared.features.WasmFeatures.{WasmFeatures}
use Rattle.wcv_syntax.specs.Model.{Core_instance_form}
use Rattle.wcv_syntax.specs.declared.core_section.Export.{Export}
use Rattle.wcv_syntax.specs.declared.core_section.InstantiationArg.{InstantiationArg}
use Rattle.wcv_types.specs.Arena.{Arena}
use Rattle.wcv_types.specs.Tree.{Text, node, parts}
use Rattle.wcv_types.specs.Unfold.{head_of, slot_parts, slots_of, tree_at, trees}
use Rattle.wcv_types.specs.declared.arena.Node.TheVariants as n
use Rattle.wcv_types.specs.declared.core_shapes.InstanceType.{InstanceType}
use Rattle.wcv_types.specs.declared.ids.ComponentCoreInstanceTypeId.{ComponentCoreInstanceTypeId}
use Rattle.wcv_types.specs.declared.ids.ComponentCoreModuleTypeId.{ComponentCoreModuleTypeId}
use Rattle.wcv_types.specs.declared.ids.Part.TheVariants as part
use Rattle.wcv_matching.specs.CoreArguments.{argument_exports}
use Rattle.wcv_matching.specs.ModuleItems.{core_imports_in}
use Rattle.wcv_lower.specs.Checks.{Checks, IsFree, missing}
use Rattle.wcv_lower.specs.CoreInstances.{all_served, sort_needs, core_instance_made, core_instance_checks}
use Rattle.wcv_lower.specs.Readers.{New_node}
use Rattle.wcv_lower.specs.Trees.{Tree_context, tree_reader, node_tree}
use Rattle.wcv_spaces.specs.Contents.{Contents, SpaceLists, stack_of}
use Rattle.wcv_spaces.specs.Looking.{core_item_in}
use Rattle.wcv_spaces.specs.Promises.{MemoryOrCausedBy}

-- ## What is looked up

-- the core instance of an argument, by the argument's name
abbrev pub IsArg : SpaceLists → InstantiationArg → Text × ComponentCoreInstanceTypeId → Type 0
IsArg s a x = (x.0 ≡ a.name) × (slice_get s.core_instances a.index ≡ Some x.1)

abbrev pub arg_checks : SpaceLists → InstantiationArg → Checks
arg_checks s a = missing (slice_get s.core_instances a.index)

-- the item that an export lists, by its name
abbrev pub IsItem : SpaceLists → Export → Text × EntityType → Type 0
IsItem s e x = (x.0 ≡ e.name) × (core_item_in s e.kind e.index ≡ Some x.1)

abbrev pub item_checks : WasmFeatures → SpaceLists → Export → Checks
item_checks fs s e = sort_needs fs e.kind ++ missing (core_item_in s e.kind e.index)

abbrev pub items_of : List (Text × EntityType) → List EntityType
items_of es = map (λ e. e.1) es

-- the arguments do not serve the module
abbrev pub served_checks : Arena → List (Text × ComponentCoreInstanceTypeId) → ComponentCoreModuleTypeId → Checks
served_checks a args m = (kind.Mismatch, not (all_served a.core (argument_exports a args) (core_imports_in (parts (tree_at a (part.Module m)))))) ∷ []

-- ## What is made

-- the shape is that of the node that the item makes, in whatever contexts further out
pub record MadeInstance (a : Arena) (s : Contents) (i : Core_instance_form) (shape : InstanceType) : Type 0 where
  pub made_node : New_node tree_reader
  pub made : (outer : List Tree_context) → core_instance_made (stack_of a s outer) i ≡ Some made_node
  pub tree : (k : ℕ) → node_tree (number k) made_node ≡ node (head_of k (n.CoreInstance shape)) (slot_parts (trees a.nodes) (slots_of (n.CoreInstance shape)))

-- the item has no cause
abbrev pub FreeInstance : Arena → Contents → Core_instance_form → Type 0
FreeInstance a s i = (outer : List Tree_context) → IsFree (core_instance_checks s.features (stack_of a s outer) i)

-- the error is out of memory, or a cause of the item
abbrev pub CausedInstance : {M : Type 0} → Arena → Contents → Core_instance_form → ℕ → Error M → Type 0
CausedInstance a s i offset e = (outer : List Tree_context) → MemoryOrCausedBy (core_instance_checks s.features (stack_of a s outer) i) offset e
