-- The types of core imports and exports: which types they name, and what they count in the type of a module.
use Rattle.std.specs.Prelude.{ℕ, ◌+◌, ◌<◌, List, length}
use Rattle.wcv_core.specs.CoreForm.{CompositeForm, func_form, struct_form, array_form, Group}
use Rattle.wcv_core.specs.CoreGroups.{IsHeapWithin, IsValWithin}
use Rattle.wcv_core.specs.CoreMatching.{type_at}
use Rattle.wcv_core.specs.declared.core_types.EntityType.{EntityType}
use Rattle.wcv_core.specs.declared.core_types.EntityType.TheVariants as entity

-- what it names is of a table of n types, by ids
abbrev pub IsEntityWithin : ℕ → EntityType → Type 0
IsEntityWithin n (entity.Func t) = t.index < n
IsEntityWithin n (entity.Tag t) = t.index < n
IsEntityWithin n (entity.Table t) = IsHeapWithin n 0 t.element_type.heap
IsEntityWithin n (entity.Memory m) = Unit {0}
IsEntityWithin n (entity.Global g) = IsValWithin n 0 g.content_type

-- the types that it is a function or a tag of are of the table
abbrev pub IsEntityKnown : ℕ → EntityType → Type 0
IsEntityKnown n (entity.Func t) = t.index < n
IsEntityKnown n (entity.Tag t) = t.index < n
IsEntityKnown n _ = Unit {0}

abbrev pub form_size : CompositeForm → ℕ
form_size (func_form ps rs) = 1 + length ps + length rs
form_size (struct_form fs) = 1
form_size (array_form f) = 1

-- a function or a tag counts its parameters and results
abbrev pub entity_size : List Group → EntityType → ℕ
entity_size gs (entity.Func t) = form_size (type_at gs t.index).inner
entity_size gs (entity.Tag t) = form_size (type_at gs t.index).inner
entity_size gs (entity.Table t) = 1
entity_size gs (entity.Memory m) = 1
entity_size gs (entity.Global g) = 1
