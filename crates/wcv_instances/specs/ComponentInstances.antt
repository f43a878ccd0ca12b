-- Instances of components, and those that list items, over the ids of a state.
use Rattle.std.specs.Prelude.{ℕ, List, [], ◌∷◌, ◌++◌, ◌<◌, ◌≤◌, All, Some, is_some, map, ◌≡◌}
use Rattle.std.specs.List.{IsDistinct}
use Rattle.wcv_core.specs.Limits.{max_depth, max_size}
use Rattle.wcv_core.specs.Names.{Place, number}
use Rattle.wcv_core.specs.declared.error.Error.{Error}
use Rattle.wcv_core.specs.declared.error.ErrorKind.TheVariants as kind
use Rattle.wcv_core.specs.declared.features.WasmFeatures.{WasmFeatures}
use Rattle.wcv_syntax.specs.Model.{Instance_form, instantiate, bag}
use Rattle.wcv_syntax.specs.declared.instance.ComponentInstantiationArg.{ComponentInstantiationArg}
use Rattle.wcv_syntax.specs.declared.name.ComponentExport.{ComponentExport}
use Rattle.wcv_syntax.specs.declared.name.ComponentExternName.{ComponentExternName}
use Rattle.wcv_types.specs.Arena.{Arena}
use Rattle.wcv_types.specs.Entities.{entity_tree}
use Rattle.wcv_types.specs.Measure.{size, depth}
use Rattle.wcv_types.specs.Sets.{same_resource}
use Rattle.wcv_types.specs.Standing.{Stands}
use Rattle.wcv_types.specs.Tree.{Text, firsts, instance_type, owned}
use Rattle.wcv_types.specs.Unfold.{Type_tree, tree_at, trees}
use Rattle.wcv_types.specs.declared.ids.Part.TheVariants as part
use Rattle.wcv_types.specs.declared.item_map.ComponentItem.{ComponentItem}
use Rattle.wcv_types.specs.declared.shapes.ComponentEntityType.{ComponentEntityType}
use Rattle.wcv_names.specs.Externs.{entry_of}
use Rattle.wcv_lower.specs.Checks.{Checks, IsFree, if_found, too_many}
use Rattle.wcv_lower.specs.Given.{GivenNames, names_of, GivesAt}
use Rattle.wcv_lower.specs.Instances.{arguments, borrow_checks, component_at, instance_made, made_checks, names_checks}
use Rattle.wcv_lower.specs.Names.{Under}
use Rattle.wcv_lower.specs.Trees.{Entries, Tree_context, tree_maker, tree_reader}
use Rattle.wcv_lower.specs.Values.{kind_checks}
use Rattle.wcv_spaces.specs.Contents.{Contents, SpaceLists, context_of, stack_of}
use Rattle.wcv_instantiate.specs.Instantiations.{MayInstantiate, brought_of}
use Rattle.wcv_spaces.specs.Looking.{item_id, item_id_checks}
use Rattle.wcv_spaces.specs.Promises.{MemoryOrCausedBy, numbers_of}
use Rattle.wcv_instantiate.specs.declared.instances.NewInstance.{NewInstance}

-- ## What is looked up

-- the item of an argument, by the argument's name
abbrev pub IsArg : SpaceLists → ComponentInstantiationArg → Text × ComponentEntityType → Type 0
IsArg s a x = (x.0 ≡ a.name) × (item_id s a.kind a.index ≡ Some x.1)

-- a value needs its feature
abbrev pub arg_checks : WasmFeatures → SpaceLists → ComponentInstantiationArg → Checks
arg_checks fs s a = kind_checks fs a.kind ++ item_id_checks s a.kind a.index

-- an item that is listed, by its whole name
abbrev pub IsListed : SpaceLists → ComponentExport → ComponentExternName × ComponentEntityType → Type 0
IsListed s e x = (x.0 ≡ e.name) × (item_id s e.kind e.index ≡ Some x.1)

-- items with their names, as the entries of an instance
abbrev pub as_entries : List (ComponentExternName × ComponentEntityType) → List (Text × ComponentItem)
as_entries xs = map (λ x. entry_of x.0 x.1) xs

-- a borrowed handle stands in the entity, if it is a value
abbrev pub lending_checks : Arena → ComponentEntityType → Checks
lending_checks a x = borrow_checks tree_reader (entity_tree (trees a.nodes) x)

-- a value needs its feature, there is none, a type is written beside it, or it is a value with a borrowed handle
abbrev pub item_checks : Arena → WasmFeatures → SpaceLists → ComponentExport → Checks
item_checks a fs s e = kind_checks fs e.kind ++ (item_id_checks s e.kind e.index ++ ((kind.Shape, is_some e.ty) ∷ if_found (lending_checks a) (item_id s e.kind e.index)))

abbrev pub size_checks : Type_tree → Checks
size_checks t = too_many max_size (size t) ++ too_many max_depth (depth t)

-- ## What is made

-- an instance may be made of the component that the item names, by the arguments that it names, if one is there. Of an instance that lists
-- items nothing is asked
abbrev pub ItemMayInstantiate : Arena → Contents → Instance_form → Type 0
ItemMayInstantiate a s (instantiate k args) = (c : Type_tree) → component_at (context_of a s) k ≡ Some c → MayInstantiate (arguments (context_of a s) args) c
ItemMayInstantiate a s (bag es) = Unit {0}

-- so of each item
abbrev pub AllMayInstantiate : Arena → Contents → Type 0
AllMayInstantiate a s = (i : Instance_form) → ItemMayInstantiate a s i

-- the instance is what the item makes at each place, by names that the arena gave, in whatever contexts further out, and the item has no cause,
-- use of values aside
pub record MadeInstance (a b : Arena) (s : Contents) (i : Instance_form) (m : NewInstance) : Type 0 where
  pub given_names : Place → GivenNames
  pub given : (q : Place) → GivesAt (Under q) (numbers_of a) (numbers_of b) (given_names q)
  pub made : (outer : List Tree_context) (q : Place) → instance_made (tree_maker (names_of (given_names q)) q) (stack_of a s outer) i ≡ Some (brought_of b m)
  pub free : (outer : List Tree_context) (q : Place) → IsFree (made_checks s.features (tree_maker (names_of (given_names q)) q) (stack_of a s outer) i)
  pub stands : Stands b (part.Instance m.ty)
  pub alone : owned (tree_at b (part.Instance m.ty)) ≡ []
  pub fresh : All (λ r. a.resources ≤ r.0.index) m.resources
  pub below : All (λ r. r.0.index < b.resources) m.resources
  pub distinct : IsDistinct same_resource (firsts m.resources)
  pub core : b.core ≡ a.core

-- the error is out of memory, or a cause of the item at each place by names that the arena gave, use of values aside
pub record CausedInstance {M : Type 0} (a b : Arena) (s : Contents) (i : Instance_form) (offset : ℕ) (e : Error M) : Type 0 where
  pub given_names : Place → GivenNames
  pub given : (q : Place) → GivesAt (Under q) (numbers_of a) (numbers_of b) (given_names q)
  pub caused : (outer : List Tree_context) (q : Place) → MemoryOrCausedBy (made_checks s.features (tree_maker (names_of (given_names q)) q) (stack_of a s outer) i) offset e

-- ## A list of items

-- the names of entries, each beside those before it, and the size and the depth of the instance that lists them
abbrev pub list_checks : WasmFeatures → Entries → Checks
list_checks fs es = names_checks tree_reader fs [] es ++ size_checks (instance_type (number 0) [] es)
