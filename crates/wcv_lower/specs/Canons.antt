-- Canonical functions, by their rows: what each appends, and why it is refused.
use Rattle.std.specs.Prelude.{ℕ, List, [], ◌∷◌, ◌++◌, length, Bool, true, false, not, ◌&&◌, ◌||◌, cond, eqb, nat_lt, Option, Some, None, slice_get}
use Rattle.std.specs.List.{list_any}
use Rattle.std.specs.Map.{lookup}
use Rattle.std.specs.Option.{option_map, option_and_then, unwrap_or}
use Rattle.wcv_core.specs.Checks.{all_checks, lacks}
use Rattle.wcv_core.specs.CoreFeatures.{needs, val_needs}
use Rattle.wcv_core.specs.CoreForm.{CompositeForm, func_form, SubForm, Group}
use Rattle.wcv_core.specs.CoreGroups.{total, id_of}
use Rattle.wcv_core.specs.CoreJoining.{is_free, order_checks, first_id, grown}
use Rattle.wcv_core.specs.CoreMatching.{same_bool}
use Rattle.wcv_core.specs.CoreMatching as table
use Rattle.wcv_core.specs.CoreTable.{limit_checks}
use Rattle.wcv_core.specs.CoreWritten.{Core_entry, sub_entry, module_entry, entry_checks, val_checks, index_checks, closed_group}
use Rattle.wcv_core.specs.Limits.{max_list}
use Rattle.wcv_core.specs.declared.core_types.AbstractHeap.TheVariants as heap_name
use Rattle.wcv_core.specs.declared.core_types.CoreTypeId.{CoreTypeId}
use Rattle.wcv_core.specs.declared.core_types.EntityType.{EntityType}
use Rattle.wcv_core.specs.declared.core_types.EntityType.TheVariants as entity
use Rattle.wcv_core.specs.declared.core_types.HeapType.TheVariants as heap
use Rattle.wcv_core.specs.declared.core_types.TableType.{TableType}
use Rattle.wcv_core.specs.declared.core_types.ValType.{ValType}
use Rattle.wcv_core.specs.declared.core_types.ValType.TheVariants as val
use Rattle.wcv_core.specs.declared.error.ErrorKind.TheVariants as error
use Rattle.wcv_core.specs.declared.features.WasmFeatures.{WasmFeatures}
use Rattle.wcv_syntax.specs.Model.{Canon_form}
use Rattle.wcv_syntax.specs.Model as form
use Rattle.wcv_syntax.specs.declared.canonical.CanonicalOption.{CanonicalOption}
use Rattle.wcv_syntax.specs.declared.component_type.ComponentValType.{ComponentValType}
use Rattle.wcv_syntax.specs.declared.component_type.ComponentValType.TheVariants.{Ty}
use Rattle.wcv_syntax.specs.declared.core_section.ExternalKind.TheVariants as kind
use Rattle.wcv_types.specs.Abi.{pointer, any_contains}
use Rattle.wcv_types.specs.Tree.{is_func, is_value, is_resource, parts}
use Rattle.wcv_matching.specs.ItemTests.{same_ref, same_val}
use Rattle.wcv_flat.specs.Options.{pointer_size, type_checks}
use Rattle.wcv_flat.specs.RowTypes.{words_form, taking, sync, is_shared, sole}
pub use Rattle.wcv_flat.specs.Rows.{options_in}
use Rattle.wcv_flat.specs.Rows.{Ask, Needed, Appends, async_option, callback_option, canon_row}
use Rattle.wcv_flat.specs.Rows as row
use Rattle.wcv_flat.specs.Signature.{core_type}
use Rattle.wcv_flat.specs.declared.options.Abi.TheVariants as abi
use Rattle.wcv_flat.specs.declared.options.CanonicalOptions.{CanonicalOptions}
use Rattle.wcv_flat.specs.declared.options.Concurrency.TheVariants as concurrency
use Rattle.wcv_flat.specs.declared.options.PtrSize.{PtrSize}
use Rattle.wcv_flat.specs.declared.options.StringEncoding.TheVariants as encoding
use Rattle.wcv_flat.specs.declared.rows.RowFacts.{RowFacts}
use Rattle.wcv_lower.specs.CanonOptions.{stands, first, post_return_in, core_entity_at, memory_type_at, memory_pointers, memory_rules, size_of, options_read, memory_found, options_checks, stands_without}
use Rattle.wcv_lower.specs.Checks.{Checks, if_found, is_none, missing, no_room, too_many}
use Rattle.wcv_lower.specs.Context.{Context, Stack, in_funcs, core_funcs, counts}
use Rattle.wcv_lower.specs.CoreInstances.{core_item_at, test_found}
use Rattle.wcv_lower.specs.CoreItems.{core_entries, is_closable}
use Rattle.wcv_lower.specs.Defined.{has_borrow}
use Rattle.wcv_lower.specs.Outlines.{Outline, is_async_func, is_stream, is_future, carried, has_value}
use Rattle.wcv_lower.specs.Readers.{Reader}
use Rattle.wcv_lower.specs.Step.{Step, appends, core_appends, interns, types_slots}
use Rattle.wcv_lower.specs.Types.{takes_and_gives, form_takes_and_gives}
use Rattle.wcv_core.specs.Features.{cm_async_stackful, cm_more_async_builtins, cm_threading, cm64}
use Rattle.wcv_lower.specs.Values.{has_feature, type_at, type_of_sort, sort_checks, resource_at, option_entry, option_checks}

-- ## What operands name

abbrev pub func_at : {X : Reader} → Context X → ℕ → Option X.Entry
func_at c k = slice_get (c.space in_funcs) k

-- the core type at the index, by its id
abbrev pub core_id : Core_entry → Option CoreTypeId
core_id (sub_entry i) = Some (record { index = i })
core_id module_entry = None

abbrev pub core_id_at : {X : Reader} → Context X → ℕ → Option CoreTypeId
core_id_at c k = option_and_then core_id (slice_get (core_entries c) k)

abbrev pub as_table : EntityType → Option TableType
as_table (entity.Table t) = Some t
as_table e = None

abbrev pub table_type_at : {X : Reader} → Context X → ℕ → Option TableType
table_type_at c n = option_and_then as_table (core_entity_at c kind.Table n)

-- the size of the numbers of a table's elements
abbrev pub element_size : TableType → PtrSize
element_size t = size_of t.table64

-- the representation of the resource that the entry refers to, where these are defined and it is known
abbrev pub rep_among : (X : Reader) → List (X.Resource × Option ValType) → X.Entry → Option ValType
rep_among X ds x = option_and_then (λ v. v) (lookup (λ r. X.is_free r x) ds)

abbrev pub local_rep : {X : Reader} → Context X → ℕ → Option ValType
local_rep {X} c k = option_and_then (rep_among X c.defined) (resource_at c k)

-- the first parameter of a function
abbrev pub first_param : CompositeForm → Option ValType
first_param (func_form (v ∷ vs) rs) = Some v
first_param f = None

abbrev pub start_param : List Group → CoreTypeId → Option ValType
start_param gs i = first_param (table.type_at gs i.index).inner

-- ## The core type of what is appended

abbrev pub canon_options : {X : Reader} → Context X → Canon_form → CanonicalOptions
canon_options c f = options_read c (unwrap_or (options_in f) [])

-- those with a memory alone
abbrev pub memory_alone : ℕ → PtrSize → CanonicalOptions
memory_alone m size = record { string_encoding = encoding.Utf8; memory = Some (m, size); realloc = None; post_return = None; concurrency = concurrency.Sync }

-- what an operand says of the words of a row
abbrev pub told_by : {X : Reader} → Stack X → Ask → RowFacts → RowFacts
told_by s (row.local_resource_at k) f = record f { rep = local_rep s.top k }
told_by s (row.memory_at m) f = record f { options = Some (memory_alone m (memory_pointers s.top m)) }
told_by s (row.spawn_type_at t) f = record f { start = core_id_at s.top t }
told_by s (row.start_type_at t) f = record f { start_param = option_and_then (start_param s.groups) (core_id_at s.top t) }
told_by s (row.start_table_at n) f = record f { table_index = option_map element_size (table_type_at s.top n) }
told_by s q f = f

abbrev pub all_told : {X : Reader} → Stack X → List Ask → RowFacts → RowFacts
all_told s [] f = f
all_told s (q ∷ qs) f = told_by s q (all_told s qs f)

-- of what represents a resource, of pointers, and of threads
abbrev pub canon_facts : {X : Reader} → Stack X → Canon_form → RowFacts
canon_facts s f = all_told s (canon_row f).asks (record { options = option_map (options_read s.top) (options_in f); function = None; rep = None; start = None; start_param = None; table_index = None })

-- a function, lifted or lowered
abbrev pub lifted_form : (X : Reader) → CanonicalOptions → X.Entry → CompositeForm
lifted_form X o x = core_type (pointer_size o) abi.Lift o.concurrency (parts (X.outline x))

abbrev pub lowered_form : (X : Reader) → CanonicalOptions → X.Entry → CompositeForm
lowered_form X o x = core_type (pointer_size o) abi.Lower o.concurrency (parts (X.outline x))

-- one that takes the value and gives none
abbrev pub returning_form : (X : Reader) → CanonicalOptions → X.Entry → CompositeForm
returning_form X o x = core_type (pointer_size o) abi.Lower concurrency.Sync (taking (X.outline x))

-- where a core function is appended
abbrev pub row_form : {X : Reader} → Stack X → Canon_form → Appends → Option CompositeForm
row_form {X} s f (row.lowered k) = option_map (lowered_form X (canon_options s.top f)) (func_at s.top k)
row_form {X} s f (row.returning r) = option_map (returning_form X (canon_options s.top f)) (option_entry s.top r)
row_form s f (row.lifted t) = None
row_form s f q = Some (words_form (canon_facts s f) q)

-- alone in its group
abbrev pub alone : Bool → CompositeForm → Group
alone shared f = sole shared f ∷ []

abbrev pub row_group : {X : Reader} → Stack X → Appends → CompositeForm → Group
row_group s q w = closed_group (core_entries s.top) (alone (is_shared q) w)

-- that group, in closed form
abbrev pub canon_group : {X : Reader} → Stack X → Canon_form → Option Group
canon_group s f = option_map (row_group s (canon_row f).appends) (row_form s f (canon_row f).appends)

-- ## What is looked up

-- no type of that form stands at the index
abbrev pub outline_checks : {X : Reader} → (Outline → Bool) → Context X → ℕ → Checks
outline_checks {X} test c k = missing (type_at c k) ++ (error.WrongSort, test_found (λ (x : X.Entry). not (test (X.outline x))) (type_at c k)) ∷ []

-- the component does not define the resource, or does not say what represents it
abbrev pub is_abroad : {X : Reader} → Context X → ℕ → Bool
is_abroad {X} c k = test_found (λ (x : X.Entry). is_none (rep_among X c.defined x)) (resource_at c k)

abbrev pub ask_found : {X : Reader} → Stack X → Ask → Checks
ask_found s (row.resource_at k) = sort_checks is_resource s.top k
ask_found s (row.local_resource_at k) = sort_checks is_resource s.top k ++ (error.ResourceScope, is_abroad s.top k) ∷ []
ask_found s (row.stream_at k) = outline_checks is_stream s.top k
ask_found s (row.future_at k) = outline_checks is_future s.top k
ask_found s (row.memory_at m) = missing (core_item_at s.top kind.Memory m)
ask_found s (row.slot_of v n) = val_checks (total s.groups) (core_entries s.top) 0 v
ask_found s (row.spawn_type_at t) = entry_checks (slice_get (core_entries s.top) t)
ask_found s (row.start_type_at t) = entry_checks (slice_get (core_entries s.top) t)
ask_found s (row.spawn_table_at n) = missing (core_item_at s.top kind.Table n)
ask_found s (row.start_table_at n) = missing (core_item_at s.top kind.Table n)
ask_found s (row.lifts f t os) = missing (core_item_at s.top kind.Func f)
ask_found s q = []

abbrev pub value_found : {X : Reader} → Context X → Option ComponentValType → Checks
value_found c (Some (Ty k)) = sort_checks is_value c k
value_found c o = []

-- a function, its type, or a value type
abbrev pub appends_found : {X : Reader} → Context X → Appends → Checks
appends_found c (row.lowered k) = missing (func_at c k)
appends_found c (row.returning r) = value_found c r
appends_found c (row.lifted t) = sort_checks is_func c t
appends_found c q = []

-- all operands are looked up
abbrev pub operands_found : {X : Reader} → Stack X → Canon_form → Checks
operands_found s f = all_checks (ask_found s) (canon_row f).asks ++ appends_found s.top (canon_row f).appends

-- and of the options the first memory: no other index in them says what is appended
abbrev pub canon_found : {X : Reader} → Stack X → Canon_form → Checks
canon_found s f = operands_found s f ++ if_found (memory_found s.top) (options_in f)

-- ## Steps

-- the group joins those that were read, and a function of its first type the core functions
abbrev pub func_joins : (X : Reader) → List Group → Group → Step X
func_joins X gs g = interns (grown gs g) ∷ core_appends core_funcs (X.core_item (entity.Func (record { index = first_id gs g }))) ∷ []

-- where what it names is there
abbrev pub func_step : {X : Reader} → Stack X → Group → Option (Step X)
func_step {X} s w = cond (is_closable s.groups (core_entries s.top) w) (Some (func_joins X s.groups (closed_group (core_entries s.top) w))) None

abbrev pub func_added : {X : Reader} → X.Entry → Step X
func_added x = appends in_funcs x ∷ []

-- a function of the type at the index, or a core function
abbrev pub row_step : {X : Reader} → Stack X → Canon_form → Appends → Option (Step X)
row_step s f (row.lifted t) = option_map func_added (type_of_sort is_func s.top t)
row_step s f q = option_and_then (λ w. func_step s (alone (is_shared q) w)) (row_form s f q)

-- the type of slots is said by the first that reads or writes one
abbrev pub slots_typed : {X : Reader} → List Ask → Step X → Step X
slots_typed [] p = p
slots_typed (row.slot_of v n ∷ qs) p = types_slots v ∷ slots_typed qs p
slots_typed (q ∷ qs) p = slots_typed qs p

abbrev pub canon_step : {X : Reader} → Stack X → Canon_form → Option (Step X)
canon_step s f = cond (is_free (canon_found s f)) (option_map (slots_typed (canon_row f).asks) (row_step s f (canon_row f).appends)) None

-- ## Why it is refused

-- an option has to stand
abbrev pub is_needed : {X : Reader} → Context X → Needed → Bool
is_needed c row.in_any_case = true
is_needed {X} c (row.with_payload k t) = test_found (λ (x : X.Entry). has_value (carried (X.outline x) k)) (type_at c t)
is_needed {X} c (row.with_pointer k t) = test_found (λ (x : X.Entry). any_contains pointer (carried (X.outline x) k)) (type_at c t)

-- the options have `async`, and what was found is no async function
abbrev pub is_async_alone : (X : Reader) → List CanonicalOption → Option X.Entry → Bool
is_async_alone X os o = stands async_option os && test_found (λ (x : X.Entry). not (is_async_func (X.outline x))) o

-- the type of a slot is a number, of 64 bits under a feature
abbrev pub slot_type_checks : WasmFeatures → ValType → Checks
slot_type_checks fs val.I32 = []
slot_type_checks fs val.I64 = lacks fs cm64
slot_type_checks fs v = (error.Context, true) ∷ []

-- there are two slots, the second with threads
abbrev pub slot_checks : WasmFeatures → Option ValType → ValType → ℕ → Checks
slot_checks fs said v n =
    val_needs fs v
    ++ (slot_type_checks fs v ++ ((error.Context, test_found (λ (w : ValType). not (same_val w v)) said) ∷ (needs fs cm_threading (nat_lt 0 n) ++ (error.Context, nat_lt 1 n) ∷ [])))

-- what is spawned is shared, takes a number and gives none
abbrev pub is_spawned : SubForm → Bool
is_spawned t = t.shared && form_takes_and_gives (val.I32 ∷ []) [] t.inner

abbrev pub takes_64_bits : SubForm → Bool
takes_64_bits t = form_takes_and_gives (val.I64 ∷ []) [] t.inner

-- what starts a thread takes a number, of 64 bits under a feature, and gives none
abbrev pub is_start : WasmFeatures → SubForm → Bool
is_start fs t = form_takes_and_gives (val.I32 ∷ []) [] t.inner || takes_64_bits t && has_feature fs cm64

-- the core type at the index does not pass the test
abbrev pub is_other_type : {X : Reader} → (SubForm → Bool) → Stack X → ℕ → Bool
is_other_type test s t = test_found (λ (i : CoreTypeId). not (test (table.type_at s.groups i.index))) (core_id_at s.top t)

-- a table of references to functions, or to none, all shared or none
abbrev pub is_func_table : Bool → TableType → Bool
is_func_table shared t = same_bool t.shared shared && same_ref t.element_type (record { nullable = true; shared = shared; heap = heap.Abstract heap_name.Func })

abbrev pub is_spawn_table : TableType → Bool
is_spawn_table t = is_func_table true t && not t.table64

abbrev pub is_other_table : {X : Reader} → (TableType → Bool) → Context X → ℕ → Bool
is_other_table test c n = test_found (λ (t : TableType). not (test t)) (table_type_at c n)

-- of two that were found
abbrev pub test_both : {A B : Type 0} → (A → B → Bool) → Option A → Option B → Bool
test_both test o p = test_found (λ x. test_found (test x) p) o

-- the core function has another type than the one that the form has alone in its group
abbrev pub has_other_type : List Group → CompositeForm → EntityType → Bool
has_other_type gs w (entity.Func t) = not (test_found (eqb t.index) (id_of gs (alone false w)))
has_other_type gs w e = true

abbrev pub form_results : CompositeForm → List ValType
form_results (func_form ps rs) = rs
form_results f = []

abbrev pub results_of : List Group → EntityType → List ValType
results_of gs (entity.Func t) = form_results (table.type_at gs t.index).inner
results_of gs e = []

-- the second does not take what the first gives, or gives something
abbrev pub is_no_post_return : List Group → EntityType → EntityType → Bool
is_no_post_return gs e p = not (takes_and_gives gs (results_of gs e) [] p)

-- the core function has the core type of the function type, as it is lifted; and the options fit it
abbrev pub lift_checks : {X : Reader} → WasmFeatures → Stack X → ℕ → ℕ → List CanonicalOption → Checks
lift_checks {X} fs s f t os =
    let e : Option EntityType = core_entity_at s.top kind.Func f in
    let x : Option X.Entry = type_of_sort is_func s.top t in
    (error.Options, is_async_alone X os x)
    ∷ (needs fs cm_async_stackful (stands_without async_option callback_option os)
    ++ ((error.Options, test_both (is_no_post_return s.groups) e (option_and_then (core_entity_at s.top kind.Func) (first post_return_in os)))
    ∷ (error.Signature, test_both (λ (y : X.Entry) i. has_other_type s.groups (lifted_form X (options_read s.top os) y) i) x e) ∷ []))

-- what a row asks beside what is looked up
abbrev pub ask_rules : {X : Reader} → WasmFeatures → Stack X → Ask → Checks
ask_rules fs s (row.feature bit) = lacks fs bit
ask_rules fs s (row.more_where b) = needs fs cm_more_async_builtins b
ask_rules fs s (row.more_without_async os) = needs fs cm_more_async_builtins (not (stands async_option os))
ask_rules fs s (row.bars ns os) = (error.Options, list_any (λ n. stands n os) ns) ∷ []
ask_rules fs s (row.has_to_stand n w os) = (error.Options, is_needed s.top w && not (stands n os)) ∷ []
ask_rules {X} fs s (row.async_func k os) = (error.Options, is_async_alone X os (func_at s.top k)) ∷ []
ask_rules fs s (row.memory_at m) = if_found (memory_rules fs) (memory_type_at s.top m)
ask_rules {X} fs s (row.no_borrow r) = option_checks fs s.top r ++ if_found (has_borrow X) (option_entry s.top r)
ask_rules fs s (row.slot_of v n) = slot_checks fs s.top.context_type v n
ask_rules fs s (row.spawn_type_at t) = (error.Signature, is_other_type is_spawned s t) ∷ []
ask_rules fs s (row.start_type_at t) = (error.Signature, is_other_type (is_start fs) s t) ∷ []
ask_rules fs s (row.spawn_table_at n) = (error.Signature, is_other_table is_spawn_table s.top n) ∷ []
ask_rules fs s (row.start_table_at n) = (error.Signature, is_other_table (is_func_table false) s.top n) ∷ needs fs cm64 (test_found (λ (t : TableType). t.table64) (table_type_at s.top n))
ask_rules fs s (row.lifts f t os) = lift_checks fs s f t os
ask_rules fs s q = []

-- what the type of the function asks of the options
abbrev pub lifted_asks : (X : Reader) → CanonicalOptions → X.Entry → Checks
lifted_asks X o x = type_checks o abi.Lift (parts (X.outline x))

abbrev pub lowered_asks : (X : Reader) → CanonicalOptions → X.Entry → Checks
lowered_asks X o x = type_checks o abi.Lower (parts (X.outline x))

abbrev pub returning_asks : (X : Reader) → CanonicalOptions → X.Entry → Checks
returning_asks X o x = type_checks (sync o) abi.Lower (taking (X.outline x))

abbrev pub appended_asks : {X : Reader} → Context X → CanonicalOptions → Appends → Checks
appended_asks {X} c o (row.lowered k) = if_found (lowered_asks X o) (func_at c k)
appended_asks {X} c o (row.returning r) = if_found (returning_asks X o) (option_entry c r)
appended_asks {X} c o (row.lifted t) = if_found (lifted_asks X o) (type_of_sort is_func c t)
appended_asks c o q = []

-- what a core type names is there, and there is room for the type
abbrev pub joining_checks : {X : Reader} → Stack X → Group → Checks
joining_checks s w =
    (all_checks (index_checks (total s.groups) (core_entries s.top) (length w)) w ++ order_checks (length (core_entries s.top)) w) ++ limit_checks s.groups (closed_group (core_entries s.top) w)

abbrev pub form_joins : {X : Reader} → Stack X → Canon_form → Appends → Checks
form_joins s f q = if_found (λ w. joining_checks s (alone (is_shared q) w)) (row_form s f q)

abbrev pub canon_rules : {X : Reader} → WasmFeatures → Stack X → Canon_form → Checks
canon_rules fs s f = all_checks (ask_rules fs s) (canon_row f).asks ++ appended_asks s.top (canon_options s.top f) (canon_row f).appends

abbrev pub canon_checks : {X : Reader} → WasmFeatures → Stack X → Canon_form → Checks
canon_checks fs s f =
    operands_found s f ++ (if_found (options_checks fs s) (options_in f) ++ (canon_rules fs s f ++ (form_joins s f (canon_row f).appends ++ no_room (counts s.top) is_func)))

-- the limit that is left to the caller
abbrev pub canon_left : Canon_form → Checks
canon_left f = if_found (λ os. too_many max_list (length os)) (options_in f)
