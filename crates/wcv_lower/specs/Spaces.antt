-- The index spaces and the lists of a component or a declared type that is being read, by name.
use Rattle.std.specs.Prelude.{List, [], ◌∷◌, ◌++◌, Bool, true, false, cond}

-- what is read
pub data Kind : Type 0 where
  concrete declares_instance declares_component : Kind

-- what an instance type declares needs no names
abbrev pub asks_names : Kind → Bool
asks_names concrete = true
asks_names declares_component = true
asks_names declares_instance = false

-- a resource may be defined
abbrev pub is_concrete : Kind → Bool
is_concrete concrete = true
is_concrete _ = false

-- the index spaces of a component's own items
pub data Space : Type 0 where
  in_types in_funcs in_values in_instances in_components : Space

-- those of its core items
pub data Core_space : Type 0 where
  core_types core_funcs core_tags core_modules core_instances core_memories core_tables core_globals : Core_space

-- the two lists of named entries
pub data Side : Type 0 where
  importing exporting : Side

abbrev pub same_space : Space → Space → Bool
same_space in_types in_types = true
same_space in_funcs in_funcs = true
same_space in_values in_values = true
same_space in_instances in_instances = true
same_space in_components in_components = true
same_space _ _ = false

abbrev pub same_core_space : Core_space → Core_space → Bool
same_core_space core_types core_types = true
same_core_space core_funcs core_funcs = true
same_core_space core_tags core_tags = true
same_core_space core_modules core_modules = true
same_core_space core_instances core_instances = true
same_core_space core_memories core_memories = true
same_core_space core_tables core_tables = true
same_core_space core_globals core_globals = true
same_core_space _ _ = false

abbrev pub same_side : Side → Side → Bool
same_side importing importing = true
same_side exporting exporting = true
same_side _ _ = false

-- what an import creates is named for both sides, what an export creates for exports
abbrev pub names_for : Side → Side → Bool
names_for importing j = true
names_for exporting importing = false
names_for exporting exporting = true

-- one more at the end, where that is so
abbrev pub joined : {X : Type 0} → Bool → List X → X → List X
joined b xs x = cond b (xs ++ x ∷ []) xs
