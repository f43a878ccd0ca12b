-- What an item appends to lists of values, but for an instantiation. It is undefined where the machine is stuck at the item.
use Rattle.std.specs.Prelude.{List, [], ◌∷◌, map, length, Bool, true, cond, Option, Some, None, bytes_eq}
use Rattle.std.specs.Map.{lookup}
use Rattle.std.specs.Option.{option_map, option_and_then, option_map_or}
use Rattle.wcv_core.specs.CoreForm.{Group}
use Rattle.wcv_core.specs.Names.{Name, Place, base}
use Rattle.wcv_core.specs.declared.core_types.ValType.{ValType}
use Rattle.wcv_core.specs.declared.features.WasmFeatures.{WasmFeatures}
use Rattle.wcv_syntax.specs.Model.{Form, core_instance_item, type_item, import_item, export_item, component_item, instance_item, Core_instance_form, core_instantiate, core_bag, resource_type, instantiate, bag, Items}
use Rattle.wcv_syntax.specs.declared.name.ComponentExport.{ComponentExport}
use Rattle.wcv_syntax.specs.declared.name.ComponentImport.{ComponentImport}
use Rattle.wcv_types.specs.Tree as tree
use Rattle.wcv_types.specs.Tree.{Text, plain_name}
use Rattle.wcv_types.specs.Unfold.{Type_tree}
use Rattle.wcv_matching.specs.TableMatching.{Opens}
use Rattle.wcv_lower.specs.Context.{in_components, importing, exporting, placed}
use Rattle.wcv_lower.specs.CoreInstances.{all_served, offered, core_module_at}
use Rattle.wcv_lower.specs.Declared.{applied, read_type}
use Rattle.wcv_lower.specs.Entries.{extern_name, exported_at, new_there, written}
use Rattle.wcv_lower.specs.Growth.{grow}
use Rattle.wcv_lower.specs.Names.{Names}
use Rattle.wcv_lower.specs.Readers.{Maker, Brought}
use Rattle.wcv_lower.specs.Step.{Step, appends, bare, enters}
use Rattle.wcv_lower.specs.Trees.{tree_reader}
use Rattle.wcv_world.specs.Naming.{Naming}
use Rattle.wcv_world.specs.Reading.{Value_context, Value_stack, value_reader, value_maker, token_maker}
use Rattle.wcv_world.specs.Values.{Run, Value, closure, Levels, no_levels, level, type_over, unnamed}

abbrev pub Arguments : Type 0
Arguments = List (Text × Value)

-- each token with its representation, by its number; the resources that the context on top defines are all of them, so that a row finds
-- the representation of any
abbrev pub Tokens : Type 0
Tokens = List (Name × Option ValType)

-- ## Imports

-- what has a written type, as a component would that imports it alone
abbrev pub importing_alone : Brought value_reader → Type_tree
importing_alone b = tree.component_type (base []) (placed 0 b.resources) [] ((plain_name [], type_over b.entity) ∷ []) []

-- a value matches the written type under some substitution of the resources that the import introduces
abbrev pub FitsWritten : List Group → Value → Brought value_reader → Type 0
FitsWritten gs v b = (s : Name → Name) × Opens gs s (([], type_over v) ∷ []) (importing_alone b)

-- as the pass tells it
abbrev pub fits_written : List Group → Value → Brought value_reader → Bool
fits_written gs v b = tree_reader.opens gs (([], type_over v) ∷ []) (importing_alone b)

-- the argument itself
abbrev pub if_fits : List Group → Value → Brought value_reader → Option (Brought value_reader)
if_fits gs v b = cond (fits_written gs v b) (Some (bare value_reader v)) None

abbrev pub argument_for : Maker value_reader → Value_stack → Arguments → ComponentImport → Option (Brought value_reader)
argument_for mk s args i = option_and_then (λ b. option_and_then (λ v. if_fits s.groups v b) (lookup (bytes_eq i.name.name) args)) (written mk s.top i.ty)

abbrev pub import_step : Maker value_reader → Value_stack → Arguments → ComponentImport → Option (Step value_reader)
import_step mk s args i = option_map (enters importing (extern_name i.name)) (new_there importing (extern_name i.name) s.top (argument_for mk s args i))

-- ## Exports

-- the item itself under its name alone, whatever type is written beside it
abbrev pub export_step : Value_context → ComponentExport → Option (Step value_reader)
export_step c e = option_map (enters exporting (plain_name e.name.name)) (new_there exporting (plain_name e.name.name) c (option_map (bare value_reader) (exported_at c e)))

-- a listed item under its name alone
abbrev pub named_alone : ComponentExport → ComponentExport
named_alone e = record e { name = record { name = e.name.name; implements = None; version_suffix = None; external_id = None } }

-- ## Components

abbrev pub levels_of : List Value_context → Levels
levels_of [] = no_levels
levels_of (c ∷ cs) = level (λ k. unnamed (c.space k)) (λ k. unnamed (c.core k)) (levels_of cs)

abbrev pub closure_joins : Run → Place → Items → Value_stack → Type_tree → Step value_reader
closure_joins R p is s t = appends in_components (closure R p is (levels_of (s.top ∷ s.outer)) t) ∷ []

-- where a type is recorded of it
abbrev pub closure_step : Run → Place → Items → Value_stack → Option (Step value_reader)
closure_step R p is s = option_map (closure_joins R p is s) (R.recorded p)

-- ## Core instances

-- the arguments serve what the core module imports
abbrev pub are_served : Value_stack → Core_instance_form → Bool
are_served s (core_bag es) = true
are_served s (core_instantiate i args) = option_map_or (λ m. all_served s.groups (offered s.top args) (value_reader.core_imports m)) (core_module_at s.top i) true

-- ## Items

-- the item at place p of the root of run R, read with arguments
abbrev pub grow_values : WasmFeatures → Naming → Names → Run → Place → Arguments → Value_stack → Form → Option Value_stack
grow_values fs n names R p args s (type_item (resource_type rep dtor)) = grow fs (token_maker names (n.token (length s.top.defined)) p) s (type_item (resource_type rep dtor))
grow_values fs n names R p args s (type_item t) = read_type fs (value_maker names) p s t
grow_values fs n names R p args s (import_item i) = applied s (import_step (value_maker names p) s args i)
grow_values fs n names R p args s (export_item e) = applied s (export_step s.top e)
grow_values fs n names R p args s (component_item is end) = applied s (closure_step R p is s)
grow_values fs n names R p args s (core_instance_item i) = cond (are_served s i) (grow fs (value_maker names p) s (core_instance_item i)) None
grow_values fs n names R p args s (instance_item (bag es)) = grow fs (value_maker names p) s (instance_item (bag (map named_alone es)))
grow_values fs n names R p args s (instance_item (instantiate c qs)) = None
grow_values fs n names R p args s f = grow fs (value_maker names p) s f
