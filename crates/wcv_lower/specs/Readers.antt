-- What the rules read of an entry, and what they make. Entries are trees in the statements, ids in the code, values in a machine.
use Rattle.std.specs.Prelude.{ℕ, List, [], ◌∷◌, Bool, cond, Option, Some, None, bytes_eq}
use Rattle.wcv_core.specs.CoreForm.{Group}
use Rattle.wcv_core.specs.CoreWritten.{Core_entry}
use Rattle.wcv_core.specs.declared.core_types.EntityType.{EntityType}
use Rattle.wcv_core.specs.declared.features.WasmFeatures.{WasmFeatures}
use Rattle.wcv_core.specs.declared.primitive.PrimitiveValType.{PrimitiveValType}
use Rattle.wcv_syntax.specs.ModuleTypes.{Module_type, Core_import, Core_export}
use Rattle.wcv_types.specs.Abi.{Mark}
use Rattle.wcv_types.specs.Tree.{Text, Extern_name, Former, Role, Sort}
use Rattle.wcv_lower.specs.Checks.{Checks, Weight, same_sort}
use Rattle.wcv_lower.specs.Outlines.{Outline}
use Rattle.wcv_lower.specs.Spaces.{Side}

pub record Reader : Type 1 where
  pub Entry : Type 0
  pub Resource : Type 0
  -- how types are known
  pub Identity : Type 0
  pub sort : Entry → Sort
  pub size : Entry → ℕ
  pub depth : Entry → ℕ
  -- of a type entity the type that it creates, as an entry of the types
  pub created : Entry → Entry
  -- of a type entity the type that it refers to
  pub referenced : Entry → Entry
  -- those of an instance, in order
  pub exports : Entry → List (Extern_name × Entry)
  -- of a function the types of its parameters, in order, and of its result, if it has one
  pub params : Entry → List Entry
  pub result : Entry → Option Entry
  -- the resources that it introduces where it joins as it is, with their paths in it
  pub introduced : Entry → List (Resource × List ℕ)
  -- the types that it creates
  pub creates : Entry → List Identity
  pub same : Identity → Identity → Bool
  -- what a side needs to be named is
  pub is_named : (Side → List Identity) → Side → Entry → Bool
  -- the causes of a whole name that it has beside these entries
  pub name_checks : WasmFeatures → List (Extern_name × Entry) → Extern_name → Entry → Checks
  -- those of a whole name in a list where no resource has a name
  pub bare_name_checks : WasmFeatures → List (Extern_name × Entry) → Extern_name → Entry → Checks
  -- the first matches the second, where these groups are the table of core types
  pub matches : List Group → Entry → Entry → Bool
  -- the arguments open what the component imports
  pub opens : List Group → List (Text × Entry) → Entry → Bool
  -- some resource is free in it
  pub has_free : Entry → Bool
  -- that resource is
  pub is_free : Resource → Entry → Bool
  -- the first path that leads to the resource in these entries
  pub first_path : Resource → List (Extern_name × Entry) → Option (List ℕ)
  -- what it is to a group of core types
  pub core_entry : Entry → Core_entry
  -- the core type with that id
  pub core_type : ℕ → Entry
  -- what a core module imports, and what a core instance exports
  pub core_imports : Entry → List Core_import
  pub core_exports : Entry → List Core_export
  -- what a core item is, if it is one, and the core item that is that
  pub item : Entry → Option EntityType
  pub core_item : EntityType → Entry
  -- a primitive value type, and what stands where a value type is left out
  pub primitive : PrimitiveValType → Entry
  pub left_out : Entry
  -- the primitive that it is, under a name or not
  pub primitive_of : Entry → Option PrimitiveValType
  -- pointers, handles or borrowed handles stand in it
  pub contains : Mark → Entry → Bool
  -- its size in memory, where a pointer has so many bytes
  pub abi_size : ℕ → Entry → ℕ
  -- the type without the names of resources and nodes
  pub outline : Entry → Outline

module _ (X : Reader) where
  abbrev pub Named : Type 0
  Named = List (Extern_name × X.Entry)

  -- the parts of a type, each in its role
  abbrev pub Made_parts : Type 0
  Made_parts = List (Role × X.Entry)

  abbrev pub sort_of : X.Entry → Sort
  sort_of x = X.sort x

  abbrev pub weight : X.Entry → Weight
  weight x = record { sort = X.sort x; size = X.size x; depth = X.depth x }

  -- the entry, where it has the sort
  abbrev pub if_sort : Sort → X.Entry → Option X.Entry
  if_sort s x = cond (same_sort s (sort_of x)) (Some x) None

-- the first of that name
abbrev pub first_named : {E : Type 0} → Text → List (Extern_name × E) → Option E
first_named n [] = None
first_named n (e ∷ es) = cond (bytes_eq n e.0.name) (Some e.1) (first_named n es)

-- ## What is made

-- a node that an item makes, without its name
pub data New_node (X : Reader) : Type 0 where
  -- whether it is async
  func_node : Bool → Made_parts X → New_node X
  defined_node : Former → Made_parts X → New_node X
  module_node : Module_type → New_node X
  -- a core instance of a core module, with what it counts
  core_instance_node : ℕ → X.Entry → New_node X
  -- one that lists its exports, with what it counts
  core_exports_node : ℕ → List Core_export → New_node X
  -- the resources that an instance type owns, and the exports
  instance_node : List X.Resource → Named X → New_node X
  -- the resources that are imported and those that are defined, and the imports and the exports
  component_node : List (X.Resource × List ℕ) → List (X.Resource × List ℕ) → Named X → Named X → New_node X

-- an entity, and the resources that it introduces, each with its path in it
pub record Brought (X : Reader) : Type 0 where
  pub entity : X.Entry
  pub resources : List (X.Resource × List ℕ)

-- What is made at the place of an item, under the names that are given there.
pub record Maker (X : Reader) : Type 0 where
  -- the entity of a type that is created again, from the type
  pub again : X.Entry → X.Entry
  -- a resource that is new, and the entity of its type
  pub resource : X.Resource
  pub reference : X.Entry
  -- an instance of an instance type: what the type owns is new there
  pub instance_of : X.Entry → Brought X
  -- an instance of a component that the arguments open: what the component defines is new there
  pub instantiate : List (Text × X.Entry) → X.Entry → Brought X
  -- a node, and the entry of the types that has it
  pub build : New_node X → X.Entry
  pub build_type : New_node X → X.Entry
