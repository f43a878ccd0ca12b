-- Core instances: those of core modules, those that list core items, and aliases of what they export.
use Rattle.std.specs.Prelude.{ℕ, suc, List, [], ◌∷◌, ◌++◌, length, map, Bool, true, false, not, cond, Option, Some, None, slice_get, bytes_eq}
use Rattle.std.specs.List.{list_all}
use Rattle.std.specs.Map.{lookup}
use Rattle.std.specs.Option.{option_map, option_map_or, option_and_then}
use Rattle.wcv_core.specs.Checks.{all_checks}
use Rattle.wcv_core.specs.Features.{exceptions}
use Rattle.wcv_core.specs.CoreFeatures.{needs}
use Rattle.wcv_core.specs.CoreForm.{Group}
use Rattle.wcv_core.specs.Limits.{max_entries, max_list, max_size}
use Rattle.wcv_core.specs.declared.core_types.EntityType.{EntityType}
use Rattle.wcv_core.specs.declared.core_types.EntityType.TheVariants as entity
use Rattle.wcv_core.specs.declared.error.ErrorKind.TheVariants as error
use Rattle.wcv_core.specs.declared.features.WasmFeatures.{WasmFeatures}
use Rattle.wcv_syntax.specs.Model.{Core_instance_form, core_instantiate, core_bag}
use Rattle.wcv_syntax.specs.ModuleTypes.{Core_import, Core_export}
use Rattle.wcv_syntax.specs.declared.core_section.Export.{Export}
use Rattle.wcv_syntax.specs.declared.core_section.ExternalKind.{ExternalKind}
use Rattle.wcv_syntax.specs.declared.core_section.ExternalKind.TheVariants as kind
use Rattle.wcv_syntax.specs.declared.core_section.InstantiationArg.{InstantiationArg}
use Rattle.wcv_types.specs.Standing.{entity_sizes}
use Rattle.wcv_types.specs.Tree.{Text, is_func, is_instance}
use Rattle.wcv_matching.specs.ItemTests.{item_matches}
use Rattle.wcv_matching.specs.ModuleItems.{before}
use Rattle.wcv_lower.specs.Checks.{Checks, Counts, full, too_many, each_too_long, is_none, missing, has_repeat, if_found, no_room}
use Rattle.wcv_lower.specs.Context.{Context, Stack, Core_space, core_funcs, core_tags, core_modules, core_instances, core_memories, core_tables, core_globals, is_concrete, counts}
use Rattle.wcv_lower.specs.Readers.{Reader, Maker, New_node, core_instance_node, core_exports_node}
use Rattle.wcv_lower.specs.Step.{Step, core_appends}

-- ## Sorts of core items

abbrev pub space_of : ExternalKind → Core_space
space_of kind.Func = core_funcs
space_of kind.Table = core_tables
space_of kind.Memory = core_memories
space_of kind.Global = core_globals
space_of kind.Tag = core_tags

abbrev pub is_of : ExternalKind → EntityType → Bool
is_of kind.Func (entity.Func t) = true
is_of kind.Table (entity.Table t) = true
is_of kind.Memory (entity.Memory m) = true
is_of kind.Global (entity.Global g) = true
is_of kind.Tag (entity.Tag t) = true
is_of _ _ = false

abbrev pub is_tag : ExternalKind → Bool
is_tag kind.Tag = true
is_tag _ = false

-- tags are a feature
abbrev pub sort_needs : WasmFeatures → ExternalKind → Checks
sort_needs fs k = needs fs exceptions (is_tag k)

-- no room for one more: core functions count with functions
abbrev pub no_item_room : Counts → ExternalKind → Checks
no_item_room n kind.Func = no_room n is_func
no_item_room n k = full max_entries (n.core (space_of k))

-- ## What stands at an index

abbrev pub core_module_at : {X : Reader} → Context X → ℕ → Option X.Entry
core_module_at c i = slice_get (c.core core_modules) i

abbrev pub core_instance_at : {X : Reader} → Context X → ℕ → Option X.Entry
core_instance_at c i = slice_get (c.core core_instances) i

-- a core item, by its sort
abbrev pub core_item_at : {X : Reader} → Context X → ExternalKind → ℕ → Option X.Entry
core_item_at c k i = slice_get (c.core (space_of k)) i

-- ## Arguments

-- what the core instance exports, and nothing where there is none
abbrev pub exported_by : (X : Reader) → Option X.Entry → List Core_export
exported_by X o = option_map_or X.core_exports o []

-- what the core instances of the arguments export, by the names of these
abbrev pub offered : {X : Reader} → Context X → List InstantiationArg → List (Text × List Core_export)
offered {X} c args = map (λ (a : InstantiationArg). (a.name, exported_by X (core_instance_at c a.index))) args

-- the test holds of what was found
abbrev pub test_found : {A : Type 0} → (A → Bool) → Option A → Bool
test_found test o = option_map_or test o false

-- the first argument with the name of an import's module exports, first under the import's name, an item that matches
abbrev pub serves : List Group → List (Text × List Core_export) → Core_import → Bool
serves gs args i = test_found (λ (es : List Core_export). test_found (λ (e : EntityType). item_matches gs e i.1) (lookup (bytes_eq i.0.1) es)) (lookup (bytes_eq i.0.0) args)

-- the arguments serve each import of a core module
abbrev pub all_served : List Group → List (Text × List Core_export) → List Core_import → Bool
all_served gs args is = list_all (serves gs args) is

-- ## Items that are listed

-- what stands there is no core item
abbrev pub is_no_item : (X : Reader) → Option X.Entry → Bool
is_no_item X o = test_found (λ (x : X.Entry). is_none (X.item x)) o

-- what a listed item is
abbrev pub item_listed : {X : Reader} → Context X → Export → Option EntityType
item_listed {X} c e = option_and_then X.item (core_item_at c e.kind e.index)

-- those that are there, by name
abbrev pub items_listed : {X : Reader} → Context X → List Export → List Core_export
items_listed c [] = []
items_listed c (e ∷ es) = before e.name (item_listed c e) (items_listed c es)

-- what an instance counts that exports them: itself, and each of them
abbrev pub listed_size : List Group → List Core_export → ℕ
listed_size gs es = suc (entity_sizes gs (map (λ (e : Core_export). e.1) es))

abbrev pub listed_checks : {X : Reader} → WasmFeatures → Context X → Export → Checks
listed_checks {X} fs c e =
    sort_needs fs e.kind ++ (missing (core_item_at c e.kind e.index) ++ (error.WrongSort, is_no_item X (core_item_at c e.kind e.index)) ∷ [])

-- ## Core instances

-- that of a module has what the module exports
abbrev pub module_instance : (X : Reader) → List Group → X.Entry → New_node X
module_instance X gs m = core_instance_node (listed_size gs (X.core_exports m)) m

-- the node that is made
abbrev pub core_instance_made : {X : Reader} → Stack X → Core_instance_form → Option (New_node X)
core_instance_made {X} s (core_instantiate i args) = cond (list_all (λ (a : InstantiationArg). not (is_none (core_instance_at s.top a.index))) args) (option_map (module_instance X s.groups) (core_module_at s.top i)) None
core_instance_made {X} s (core_bag es) =
    cond (list_all (λ (e : Export). not (is_none (item_listed s.top e))) es) (Some (core_exports_node (listed_size s.groups (items_listed s.top es)) (items_listed s.top es))) None

-- it joins the core instances
abbrev pub instance_joins : {X : Reader} → Maker X → New_node X → Step X
instance_joins mk n = core_appends core_instances (mk.build n) ∷ []

abbrev pub core_instance_step : {X : Reader} → Maker X → Stack X → Core_instance_form → Option (Step X)
core_instance_step mk s i = option_map (instance_joins mk) (core_instance_made s i)

-- an import of the module is not served
abbrev pub unserved : {X : Reader} → Stack X → List InstantiationArg → X.Entry → Checks
unserved {X} s args m = (error.Mismatch, not (all_served s.groups (offered s.top args) (X.core_imports m))) ∷ []

abbrev pub arg_names : List InstantiationArg → List Text
arg_names args = map (λ (a : InstantiationArg). a.name) args

abbrev pub listed_names : List Export → List Text
listed_names es = map (λ (e : Export). e.name) es

abbrev pub core_instance_checks : {X : Reader} → WasmFeatures → Stack X → Core_instance_form → Checks
core_instance_checks fs s (core_instantiate i args) =
    missing (core_module_at s.top i)
    ++ (all_checks (λ (a : InstantiationArg). missing (core_instance_at s.top a.index)) args ++ (if_found (unserved s args) (core_module_at s.top i) ++ ((error.Conflict, has_repeat (arg_names args)) ∷ no_room (counts s.top) is_instance)))
core_instance_checks fs s (core_bag es) =
    all_checks (listed_checks fs s.top) es
    ++ (too_many max_size (listed_size s.groups (items_listed s.top es)) ++ ((error.Conflict, has_repeat (listed_names es)) ∷ no_room (counts s.top) is_instance))

abbrev pub core_instance_left : Core_instance_form → Checks
core_instance_left (core_instantiate i args) = too_many max_list (length args) ++ each_too_long (arg_names args)
core_instance_left (core_bag es) = too_many max_list (length es) ++ each_too_long (listed_names es)

-- ## Aliases

-- what the core instance exports under the name
abbrev pub core_export_of : (X : Reader) → Text → X.Entry → Option EntityType
core_export_of X n x = lookup (bytes_eq n) (X.core_exports x)

abbrev pub if_of : ExternalKind → EntityType → Option EntityType
if_of k e = cond (is_of k e) (Some e) None

-- the item joins the space of its sort
abbrev pub item_joins : (X : Reader) → ExternalKind → EntityType → Step X
item_joins X k e = core_appends (space_of k) (X.core_item e) ∷ []

abbrev pub core_alias_step : {X : Reader} → Context X → ExternalKind → ℕ → Text → Option (Step X)
core_alias_step {X} c k i n = option_map (item_joins X k) (option_and_then (if_of k) (option_and_then (core_export_of X n) (core_instance_at c i)))

-- nothing has the name, or what has it is of another sort
abbrev pub export_checks : ExternalKind → Option EntityType → Checks
export_checks k o = (error.UnknownExport, is_none o) ∷ (error.WrongSort, test_found (λ (e : EntityType). not (is_of k e)) o) ∷ []

-- no declared type may have such an alias
abbrev pub core_alias_checks : {X : Reader} → WasmFeatures → Context X → ExternalKind → ℕ → Text → Checks
core_alias_checks {X} fs c k i n =
    (error.AliasKind, not (is_concrete c.kind))
    ∷ (sort_needs fs k ++ (missing (core_instance_at c i) ++ (if_found (λ x. export_checks k (core_export_of X n x)) (core_instance_at c i) ++ no_item_room (counts c) k)))
