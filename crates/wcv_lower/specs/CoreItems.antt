-- Core types and core modules.
use Rattle.wcv_core.specs.Limits.{max_instances}
use Rattle.std.specs.Prelude.{ℕ, List, [], ◌∷◌, ◌++◌, map, length, slice_get, Bool, true, false, ◌&&◌, not, cond, Option, Some, None}
use Rattle.std.specs.List.{list_all}
use Rattle.std.specs.Option.{option_map}
use Rattle.wcv_core.specs.Checks.{all_checks}
use Rattle.wcv_core.specs.CoreFeatures.{group_left}
use Rattle.wcv_core.specs.CoreForm.{Group}
use Rattle.wcv_core.specs.CoreGroups.{total}
use Rattle.wcv_core.specs.CoreJoining.{is_free, order_checks, table_checks, group_checks, group_ids, grown}
use Rattle.wcv_core.specs.CoreWritten.{Core_entry, heap_checks, val_checks, index_checks, closed_group}
use Rattle.wcv_core.specs.declared.core_types.CoreTypeId.{CoreTypeId}
use Rattle.wcv_core.specs.declared.error.ErrorKind.{ErrorKind}
use Rattle.wcv_core.specs.declared.error.ErrorKind.TheVariants as kind
use Rattle.wcv_core.specs.declared.features.WasmFeatures.{WasmFeatures}
use Rattle.wcv_syntax.specs.CoreItems.{type_entries, func_checks}
use Rattle.wcv_syntax.specs.Model.{Module_decl, module_type, module_import, module_export, module_outer, Core_type_form, core_rec, core_module_type}
use Rattle.wcv_syntax.specs.ModuleTypes.{Module_type, Made, module_entries, empty_module, declared, and_then, module_checks, module_left}
use Rattle.wcv_syntax.specs.declared.core_section.TypeRef.{TypeRef}
use Rattle.wcv_syntax.specs.declared.core_section.TypeRef.TheVariants as ref
use Rattle.wcv_lower.specs.Checks.{Checks, full, no_type_room, no_core_type_room}
use Rattle.wcv_lower.specs.Context.{Context, Stack, Core_space, core_types, core_modules, counts}
use Rattle.wcv_lower.specs.Readers.{Reader, Maker, module_node}
use Rattle.wcv_lower.specs.Step.{Step, core_appends, interns}

-- ## What stands in the space of core types

-- the core types with their ids, and module types
abbrev pub core_entries : {X : Reader} → Context X → List Core_entry
core_entries {X} c = map X.core_entry (c.core core_types)

-- those around a module type that is declared here, the nearest first
abbrev pub outer_entries : {X : Reader} → Stack X → List (List Core_entry)
outer_entries s = core_entries s.top ∷ map core_entries s.outer

-- ## Groups

-- each index in the group has a core type, and each supertype stands before its type
abbrev pub is_closable : List Group → List Core_entry → Group → Bool
is_closable gs es w = is_free (all_checks (index_checks (total gs) es (length w)) w ++ order_checks (length es) w)

-- checks of this kind are the rules of core types
abbrev pub is_core_rule : ErrorKind → Bool
is_core_rule kind.CoreType = true
is_core_rule _ = false

-- none of the rules is broken; limits are no rules
abbrev pub keeps_rules : Checks → Bool
keeps_rules cs = list_all (λ c. not (is_core_rule c.0 && c.1)) cs

-- it can be closed, and its types keep the rules in the table that has it
abbrev pub may_join : List Group → List Core_entry → Group → Bool
may_join gs es w = is_closable gs es w && keeps_rules (table_checks gs (closed_group es w))

-- core types join their space
abbrev pub types_join : (X : Reader) → List ℕ → Step X
types_join X is = map (λ i. core_appends core_types (X.core_type i)) is

-- a group in closed form joins those that were read, and its types join their space
abbrev pub closed_step : (X : Reader) → List Group → Group → Step X
closed_step X gs g = interns (grown gs g) ∷ types_join X (group_ids gs g)

abbrev pub group_step : {X : Reader} → Stack X → Group → Option (Step X)
group_step {X} s w = cond (may_join s.groups (core_entries s.top) w) (Some (closed_step X s.groups (closed_group (core_entries s.top) w))) None

-- ## Modules

-- the indices in a written type of an import or an export have what they name
abbrev pub is_found : List Group → List CoreTypeId → TypeRef → Bool
is_found gs ts (ref.Func i) = is_free (func_checks gs (slice_get ts i))
is_found gs ts (ref.Tag i) = is_free (func_checks gs (slice_get ts i))
is_found gs ts (ref.Table t) = is_free (heap_checks (total gs) (type_entries ts) 0 t.element_type.heap)
is_found gs ts (ref.Memory m) = true
is_found gs ts (ref.Global g) = is_free (val_checks (total gs) (type_entries ts) 0 g.content_type)

-- what a declaration names is found, and a group keeps the rules. What an outer alias names is looked up where it is made
abbrev pub is_declarable : List Group → Module_type → Module_decl → Bool
is_declarable gs m (module_type w) = may_join gs (module_entries m) w
is_declarable gs m (module_import i) = is_found gs m.types i.ty
is_declarable gs m (module_export n t) = is_found gs m.types t
is_declarable gs m (module_outer k i) = true

abbrev pub declaration_made : List (List Core_entry) → List Group → Module_type → Module_decl → Option Made
declaration_made outers gs m d = cond (is_declarable gs m d) (declared outers gs m d) None

-- what declarations make. There is nothing where an index in one has nothing, or something of another sort, and where a group breaks a rule
abbrev pub module_made : List (List Core_entry) → List Group → Module_type → List Module_decl → Option Made
module_made outers gs m [] = Some (gs, m)
module_made outers gs m (d ∷ ds) = and_then (λ s. module_made outers s.0 s.1 ds) (declaration_made outers gs m d)

-- it joins a space
abbrev pub module_joins : {X : Reader} → Maker X → Core_space → Made → Step X
module_joins mk k s = interns s.0 ∷ core_appends k (mk.build (module_node s.1)) ∷ []

-- ## Items

-- the module that a core type item makes
abbrev pub core_type_made : {X : Reader} → WasmFeatures → Stack X → Core_type_form → Option Made
core_type_made fs s (core_rec w) = None
core_type_made fs s (core_module_type ds) = module_made (outer_entries s) s.groups (empty_module fs) ds

abbrev pub core_type_step : {X : Reader} → WasmFeatures → Maker X → Stack X → Core_type_form → Option (Step X)
core_type_step fs mk s (core_rec w) = group_step s w
core_type_step fs mk s (core_module_type ds) = option_map (module_joins mk core_types) (core_type_made fs s (core_module_type ds))

abbrev pub core_type_checks : {X : Reader} → WasmFeatures → Stack X → Core_type_form → Checks
core_type_checks fs s (core_rec w) = group_checks fs s.groups (core_entries s.top) w ++ no_core_type_room (length w) (counts s.top)
core_type_checks fs s (core_module_type ds) = module_checks (outer_entries s) s.groups (empty_module fs) ds ++ no_type_room true (counts s.top)

abbrev pub core_type_left : Core_type_form → Checks
core_type_left (core_rec w) = group_left w
core_type_left (core_module_type ds) = module_left ds

-- a core module names no type around it
abbrev pub core_module_made : {X : Reader} → WasmFeatures → Stack X → List Module_decl → Option Made
core_module_made fs s ds = module_made [] s.groups (empty_module fs) ds

abbrev pub core_module_step : {X : Reader} → WasmFeatures → Maker X → Stack X → List Module_decl → Option (Step X)
core_module_step fs mk s ds = option_map (module_joins mk core_modules) (core_module_made fs s ds)

abbrev pub core_module_checks : {X : Reader} → WasmFeatures → Stack X → List Module_decl → Checks
core_module_checks fs s ds = module_checks [] s.groups (empty_module fs) ds

abbrev pub core_module_left : {X : Reader} → Context X → List Module_decl → Checks
core_module_left c ds = module_left ds ++ full max_instances (length (c.core core_modules))
