-- What the rows of canonical functions take from a state, over its ids, and the causes that are looked at before the core type is made.
use Rattle.std.specs.Prelude.{ℕ, List, [], ◌∷◌, ◌++◌, Option, Some, None, slice_get}
use Rattle.std.specs.Option.{option_map, option_and_then, option_or}
use Rattle.wcv_core.specs.declared.core_types.CoreTypeId.{CoreTypeId}
use Rattle.wcv_core.specs.declared.core_types.ValType.{ValType}
use Rattle.wcv_core.specs.declared.features.WasmFeatures.{WasmFeatures}
use Rattle.wcv_syntax.specs.Model.{Canon_form}
use Rattle.wcv_syntax.specs.declared.component_type.ComponentValType.{ComponentValType as Written}
use Rattle.wcv_syntax.specs.declared.component_type.ComponentValType.TheVariants as written
use Rattle.wcv_types.specs.Arena.{Arena}
use Rattle.wcv_types.specs.Tree.{is_func}
use Rattle.wcv_types.specs.declared.ids.ComponentAnyTypeId.{ComponentAnyTypeId}
use Rattle.wcv_types.specs.declared.ids.ComponentAnyTypeId.TheVariants as any
use Rattle.wcv_types.specs.declared.ids.ComponentCoreTypeId.{ComponentCoreTypeId}
use Rattle.wcv_types.specs.declared.ids.ComponentCoreTypeId.TheVariants as core_type
use Rattle.wcv_types.specs.declared.shapes.ComponentValType.{ComponentValType}
use Rattle.wcv_types.specs.declared.shapes.ComponentValType.TheVariants as v
use Rattle.wcv_flat.specs.Rows.{Ask, Appends, canon_row}
use Rattle.wcv_flat.specs.Rows as row
use Rattle.wcv_flat.specs.declared.options.CanonicalOptions.{CanonicalOptions}
use Rattle.wcv_flat.specs.declared.options.PtrSize.{PtrSize}
use Rattle.wcv_flat.specs.declared.rows.RowFacts.{RowFacts}
use Rattle.wcv_flat.specs.declared.rows.RowFunction.{RowFunction}
use Rattle.wcv_flat.specs.declared.rows.RowFunction.TheVariants as function
use Rattle.wcv_lower.specs.CanonOptions.{has_64_bits, size_of, options_read, options_checks}
use Rattle.wcv_lower.specs.Canons.{options_in, memory_alone, element_size, start_param, appends_found}
use Rattle.wcv_lower.specs.Checks.{Checks, if_found, no_room}
use Rattle.wcv_lower.specs.Context.{Stack, counts}
use Rattle.wcv_lower.specs.CoreInstances.{test_found}
use Rattle.wcv_lower.specs.Readers.{Reader}
use Rattle.wcv_spaces.specs.Contents.{Contents, context_of}
use Rattle.wcv_spaces.specs.Looking as looking
use Rattle.wcv_canon.specs.Operands.{operand_checks}

-- ## What stands at an index

-- what represents the resource, where it is defined here with that
abbrev pub rep_at : Contents → ℕ → Option ValType
rep_at s k = option_map (λ p. p.1) (looking.local_rep s.spaces.types s.defined_resources k)

-- the size of pointers into the memory
abbrev pub pointers_at : Contents → ℕ → PtrSize
pointers_at s m = size_of (test_found has_64_bits (slice_get s.spaces.core_memories m))

abbrev pub sub_id : ComponentCoreTypeId → Option CoreTypeId
sub_id (core_type.Sub i) = Some i
sub_id (core_type.Module i) = None

-- a core type that is no module type
abbrev pub id_at : Contents → ℕ → Option CoreTypeId
id_at s t = option_and_then sub_id (slice_get s.spaces.core_types t)

-- the first parameter of the core type
abbrev pub param_at : Arena → Contents → ℕ → Option ValType
param_at a s t = option_and_then (start_param a.core) (id_at s t)

-- the size of the numbers of the table's elements
abbrev pub elements_at : Contents → ℕ → Option PtrSize
elements_at s n = option_map element_size (slice_get s.spaces.core_tables n)

-- ## Facts

-- what an operand says of the words of a row
abbrev pub told_in : Arena → Contents → Ask → RowFacts → RowFacts
told_in a s (row.local_resource_at k) x = record x { rep = rep_at s k }
told_in a s (row.memory_at m) x = record x { options = Some (memory_alone m (pointers_at s m)) }
told_in a s (row.spawn_type_at t) x = record x { start = id_at s t }
told_in a s (row.start_type_at t) x = record x { start_param = param_at a s t }
told_in a s (row.start_table_at n) x = record x { table_index = elements_at s n }
told_in a s q x = x

abbrev pub all_told_in : Arena → Contents → List Ask → RowFacts → RowFacts
all_told_in a s [] x = x
all_told_in a s (q ∷ qs) x = told_in a s q (all_told_in a s qs x)

abbrev pub facts_in : Arena → Contents → Canon_form → Option CanonicalOptions → Option RowFunction → RowFacts
facts_in a s f o g = all_told_in a s (canon_row f).asks (record { options = o; function = g; rep = None; start = None; start_param = None; table_index = None })

-- ## Functions

abbrev pub defined_value : ComponentAnyTypeId → Option ComponentValType
defined_value (any.Defined i) = Some (v.Ty i)
defined_value x = None

-- the result of a task, which may be left out
abbrev pub result_at : Contents → Option Written → Option (Option ComponentValType)
result_at s None = Some None
result_at s (Some (written.Primitive p)) = Some (Some (v.Primitive p))
result_at s (Some (written.Ty k)) = option_map (λ x. Some x) (option_and_then defined_value (slice_get s.spaces.types k))

-- the function of which a core function is made
abbrev pub function_at : Contents → Appends → Option RowFunction
function_at s (row.lowered k) = option_map function.Lowered (slice_get s.spaces.funcs k)
function_at s (row.returning r) = option_map function.Returned (result_at s r)
function_at s q = None

-- all that a row takes
abbrev pub row_facts : Arena → Contents → Canon_form → RowFacts
row_facts a s f = facts_in a s f (option_map (options_read (context_of a s)) (options_in f)) (function_at s (canon_row f).appends)

-- ## What becomes of a state

-- the type of its slots is that, where none is said yet
abbrev pub with_slots : ValType → Contents → Contents
with_slots v s = record s { context_type = option_or s.context_type (Some v) }

abbrev pub slots_said : List Ask → Contents → Contents
slots_said [] s = s
slots_said (row.slot_of v n ∷ qs) s = slots_said qs (with_slots v s)
slots_said (q ∷ qs) s = slots_said qs s

-- ## Causes

-- those that are looked at before the core type is made
abbrev pub early_checks : {X : Reader} → WasmFeatures → Stack X → Canon_form → Checks
early_checks fs s f = operand_checks fs s f ++ (if_found (options_checks fs s) (options_in f) ++ (appends_found s.top (canon_row f).appends ++ no_room (counts s.top) is_func))
