-- The core type of what a canonical function appends, from what its operands name.
use Rattle.std.specs.Prelude.{ℕ, List, [], ◌∷◌, map, Bool, true, false, Option, Some, None}
use Rattle.std.specs.List.{All}
use Rattle.std.specs.Option.{option_map, unwrap_or}
use Rattle.wcv_core.specs.Checks.{Checks}
use Rattle.wcv_core.specs.CoreForm.{CompositeForm, func_form, SubForm, Group}
use Rattle.wcv_core.specs.CoreGroups.{IsValWithin}
use Rattle.wcv_core.specs.declared.core_types.AbstractHeap.TheVariants as abstract
use Rattle.wcv_core.specs.declared.core_types.CoreTypeId.{CoreTypeId}
use Rattle.wcv_core.specs.declared.core_types.HeapType.{HeapType}
use Rattle.wcv_core.specs.declared.core_types.HeapType.TheVariants as heap
use Rattle.wcv_core.specs.declared.core_types.ValType.{ValType}
use Rattle.wcv_core.specs.declared.core_types.ValType.TheVariants as core
use Rattle.wcv_syntax.specs.View.{canon_view}
use Rattle.wcv_syntax.specs.declared.canonical.CanonicalFunction.{CanonicalFunction}
use Rattle.wcv_types.specs.Arena.{Arena}
use Rattle.wcv_types.specs.Entities.{SlotStands}
use Rattle.wcv_types.specs.Standing.{Stands}
use Rattle.wcv_types.specs.Tree.{here, label, nothing, Tree, node, Parts, none, part, parts}
use Rattle.wcv_types.specs.Unfold.{option_slot, slot_tree, tree_at, trees}
use Rattle.wcv_types.specs.declared.ids.Part.TheVariants as p
use Rattle.wcv_flat.specs.Flat.{pointer_type}
use Rattle.wcv_flat.specs.Options.{pointer_size, type_checks}
use Rattle.wcv_flat.specs.Rows.{Word, word, pointer_word, rep_word, element_word, start_word, spawned_word, canon_row, Appends, core_func, shared_func, lowered, returning, lifted}
use Rattle.wcv_flat.specs.Signature.{core_type}
use Rattle.wcv_flat.specs.declared.options.Abi.TheVariants as abi
use Rattle.wcv_flat.specs.declared.options.CanonicalOptions.{CanonicalOptions}
use Rattle.wcv_flat.specs.declared.options.Concurrency.TheVariants as c
use Rattle.wcv_flat.specs.declared.options.PtrSize.{PtrSize}
use Rattle.wcv_flat.specs.declared.options.PtrSize.TheVariants as ptr
use Rattle.wcv_flat.specs.declared.rows.RowFacts.{RowFacts}
use Rattle.wcv_flat.specs.declared.rows.RowFunction.{RowFunction}
use Rattle.wcv_flat.specs.declared.rows.RowFunction.TheVariants as function

-- ## Words

-- pointers are of 32 bits where there are no options
abbrev pub facts_size : Option CanonicalOptions → PtrSize
facts_size None = ptr.Ptr32
facts_size (Some o) = pointer_size o

abbrev pub start_heap : Option CoreTypeId → HeapType
start_heap None = heap.Abstract abstract.Func
start_heap (Some i) = heap.Id i

-- what is not told counts as a number of 32 bits, or as a reference to any function
abbrev pub word_type : RowFacts → Word → ValType
word_type f (word v) = v
word_type f pointer_word = pointer_type (facts_size f.options)
word_type f rep_word = unwrap_or f.rep core.I32
word_type f element_word = pointer_type (unwrap_or f.table_index ptr.Ptr32)
word_type f start_word = unwrap_or f.start_param core.I32
word_type f spawned_word = core.Ref (record { nullable = true; shared = false; heap = start_heap f.start })

-- those of the parameters and of the results, which stand in the row itself
abbrev pub params_of : Appends → List Word
params_of (core_func ps rs) = ps
params_of (shared_func ps rs) = ps
params_of q = []

abbrev pub results_of : Appends → List Word
results_of (core_func ps rs) = rs
results_of (shared_func ps rs) = rs
results_of q = []

abbrev pub words_form : RowFacts → Appends → CompositeForm
words_form f q = func_form (map (word_type f) (params_of q)) (map (word_type f) (results_of q))

abbrev pub is_shared : Appends → Bool
is_shared (shared_func ps rs) = true
is_shared q = false

-- ## Functions that are lowered

-- the parts of a function that takes the value and gives none
abbrev pub taking : {R I : Type 0} → Tree R I → Parts R I
taking t = part (label []) t (part here (node nothing none) none)

-- it stands in the arena
abbrev pub FunctionStands : Arena → RowFunction → Type 0
FunctionStands a (function.Lowered i) = Stands a (p.Func i)
FunctionStands a (function.Returned v) = SlotStands a (option_slot v)

-- without `async`
abbrev pub sync : CanonicalOptions → CanonicalOptions
sync o = record o { concurrency = c.Sync }

abbrev pub function_form : Arena → CanonicalOptions → RowFunction → CompositeForm
function_form a o (function.Lowered i) = core_type (pointer_size o) abi.Lower o.concurrency (parts (tree_at a (p.Func i)))
function_form a o (function.Returned v) = core_type (pointer_size o) abi.Lower c.Sync (taking (slot_tree (trees a.nodes) (option_slot v)))

-- what the type asks of the options
abbrev pub function_checks : Arena → CanonicalOptions → RowFunction → Checks
function_checks a o (function.Lowered i) = type_checks o abi.Lower (parts (tree_at a (p.Func i)))
function_checks a o (function.Returned v) = type_checks (sync o) abi.Lower (taking (slot_tree (trees a.nodes) (option_slot v)))

abbrev pub told_form : Arena → Option CanonicalOptions → Option RowFunction → Option CompositeForm
told_form a (Some o) (Some g) = Some (function_form a o g)
told_form a o g = None

abbrev pub told_checks : Arena → Option CanonicalOptions → Option RowFunction → Checks
told_checks a (Some o) (Some g) = function_checks a o g
told_checks a o g = []

-- ## Rows

abbrev pub appended : CanonicalFunction → Appends
appended g = (canon_row (canon_view g)).appends

-- the type of a core function, without supertypes
abbrev pub sole : Bool → CompositeForm → SubForm
sole shared form = record { is_final = true; supertype = None; shared = shared; inner = form }

-- no core type is appended where a function is lifted
abbrev pub row_form : Arena → RowFacts → Appends → Option CompositeForm
row_form a f (lowered k) = told_form a f.options f.function
row_form a f (returning v) = told_form a f.options f.function
row_form a f (lifted t) = None
row_form a f q = Some (words_form f q)

abbrev pub row_type : Arena → RowFacts → Appends → Option SubForm
row_type a f q = option_map (sole (is_shared q)) (row_form a f q)

abbrev pub row_checks : Arena → RowFacts → Appends → Checks
row_checks a f (lowered k) = told_checks a f.options f.function
row_checks a f (returning v) = told_checks a f.options f.function
row_checks a f q = []

-- it stands alone in its group
abbrev pub group_alone : Option SubForm → Group
group_alone None = []
group_alone (Some s) = s ∷ []

abbrev pub row_group : Arena → RowFacts → Appends → Group
row_group a f q = group_alone (row_type a f q)

-- the types of core values in it are of a table of n core types
abbrev pub AreKnown : ℕ → RowFacts → Appends → Type 0
AreKnown n f q = All (λ w. IsValWithin n 0 (word_type f w)) (params_of q) × All (λ w. IsValWithin n 0 (word_type f w)) (results_of q)
