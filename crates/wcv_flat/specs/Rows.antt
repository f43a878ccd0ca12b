-- The rows of canonical functions: what is asked of the operands of each, and what it appends. The names and operands of the same functions are canon_rows of wcv_syntax.
use Rattle.std.specs.Prelude.{ℕ, List, [], ◌∷◌, Bool, Option, Some, None}
use Rattle.wcv_core.specs.Features.{shared_everything_threads, cm_async, cm_forward, cm_threading, cm_error_context}
use Rattle.wcv_core.specs.declared.core_types.ValType.{ValType}
use Rattle.wcv_core.specs.declared.core_types.ValType.TheVariants as core
use Rattle.wcv_syntax.specs.Model.{Canon_form}
use Rattle.wcv_syntax.specs.Model as form
use Rattle.wcv_syntax.specs.declared.canonical.CanonicalFunction.{CanonicalFunction}
use Rattle.wcv_syntax.specs.declared.canonical.CanonicalFunction.TheVariants as canon
use Rattle.wcv_syntax.specs.declared.canonical.CanonicalOption.{CanonicalOption}
use Rattle.wcv_syntax.specs.declared.component_type.ComponentValType.{ComponentValType}

-- ## What is asked of them

-- an option beside the encoding
pub data Option_name : Type 0 where
  memory_option realloc_option post_return_option async_option callback_option : Option_name

-- what carries values from one end to the other
pub data Carrier_sort : Type 0 where
  of_stream of_future : Carrier_sort

-- where an option has to stand
pub data Needed : Type 0 where
  in_any_case : Needed
  -- where the stream, or the future, at the index carries something, and where a pointer stands in that
  with_payload with_pointer : Carrier_sort → ℕ → Needed

pub data Ask : Type 0 where
  -- a feature
  feature : ℕ → Ask
  -- more built-ins of async, where that is true; so where the options have no `async`
  more_where : Bool → Ask
  more_without_async : List CanonicalOption → Ask
  -- none of these options stands in the list
  bars : List Option_name → List CanonicalOption → Ask
  -- the option stands in the list, where it has to
  has_to_stand : Option_name → Needed → List CanonicalOption → Ask
  -- the function at the index is async, where the options have `async`
  async_func : ℕ → List CanonicalOption → Ask
  -- a resource stands at the index; one that the component defines, with a representation that is known
  resource_at local_resource_at : ℕ → Ask
  stream_at future_at : ℕ → Ask
  -- a memory that is not shared
  memory_at : ℕ → Ask
  -- no borrowed handle stands in the result
  no_borrow : Option ComponentValType → Ask
  -- the slot is there, with the type that each slot of the component has
  slot_of : ValType → ℕ → Ask
  -- a core type of functions that are spawned, or that start a thread
  spawn_type_at start_type_at : ℕ → Ask
  -- a table of such functions
  spawn_table_at start_table_at : ℕ → Ask
  -- the core function has the core type of the function type, lifted with the options, and the options fit it
  lifts : ℕ → ℕ → List CanonicalOption → Ask

-- ## What is appended

-- a type of a parameter or of a result
pub data Word : Type 0 where
  word : ValType → Word
  -- a pointer into the memory
  pointer_word : Word
  -- what represents the resource
  rep_word : Word
  -- a number of an element in the table
  element_word : Word
  -- what a function takes that starts a thread
  start_word : Word
  -- a reference to what is spawned, or none
  spawned_word : Word

pub data Appends : Type 0 where
  -- a core function of that type, shared or not
  core_func shared_func : List Word → List Word → Appends
  -- one of the type that the function at the index has, lowered
  lowered : ℕ → Appends
  -- one of the type that a function has, lowered without `async`, which takes that and gives nothing
  returning : Option ComponentValType → Appends
  -- a function of the type at the index
  lifted : ℕ → Appends

-- ## The rows

pub record Row : Type 0 where
  pub asks : List Ask
  pub appends : Appends

abbrev row : List Ask → Appends → Row
row qs a = record { asks = qs; appends = a }

abbrev i32 : Word
i32 = word core.I32

abbrev i64 : Word
i64 = word core.I64

-- options that stand nowhere but where a function is lifted
abbrev of_lifting : List Option_name
of_lifting = post_return_option ∷ callback_option ∷ []

-- one that reads or writes a stream or a future at the index: what has to stand in the options is the last
abbrev copies : Ask → List Ask → List CanonicalOption → List Ask
copies at more os = feature cm_async ∷ more_without_async os ∷ at ∷ bars of_lifting os ∷ more

-- one without operands, under a feature
abbrev plain : ℕ → List Word → List Word → Row
plain bit ps rs = row (feature bit ∷ []) (core_func ps rs)

-- one of a stream or a future alone, that drops an end of it
abbrev drops : Ask → Row
drops at = row (feature cm_async ∷ at ∷ []) (core_func (i32 ∷ []) [])

-- one that forwards one to another
abbrev forwards : Ask → Row
forwards at = row (feature cm_async ∷ feature cm_forward ∷ at ∷ []) (core_func (i32 ∷ i32 ∷ []) [])

-- one that cancels, and is async where that is so
abbrev cancels : Ask → Bool → Row
cancels at b = row (feature cm_async ∷ more_where b ∷ at ∷ []) (core_func (i32 ∷ []) (i32 ∷ []))

-- one that looks at a set of what can be waited for
abbrev waits : ℕ → Row
waits m = row (feature cm_async ∷ memory_at m ∷ []) (core_func (i32 ∷ pointer_word ∷ []) (i32 ∷ []))

-- one that goes on with another thread
abbrev switches : Row
switches = plain cm_threading (i32 ∷ []) (i32 ∷ [])

abbrev no_row : Row
no_row = row [] (core_func [] [])

-- those without options
abbrev builtin_row : CanonicalFunction → Row
builtin_row (canon.ResourceNew k) = row (local_resource_at k ∷ []) (core_func (rep_word ∷ []) (i32 ∷ []))
builtin_row (canon.ResourceDrop k) = row (resource_at k ∷ []) (core_func (i32 ∷ []) [])
builtin_row (canon.ResourceRep k) = row (local_resource_at k ∷ []) (core_func (i32 ∷ []) (rep_word ∷ []))
builtin_row (canon.ThreadSpawnRef t) = row (feature shared_everything_threads ∷ spawn_type_at t ∷ []) (shared_func (spawned_word ∷ i32 ∷ []) (i32 ∷ []))
builtin_row (canon.ThreadSpawnIndirect t n) = row (feature shared_everything_threads ∷ spawn_type_at t ∷ spawn_table_at n ∷ []) (shared_func (i32 ∷ i32 ∷ []) (i32 ∷ []))
builtin_row canon.ThreadAvailableParallelism = row (feature shared_everything_threads ∷ []) (shared_func [] (i32 ∷ []))
builtin_row canon.BackpressureInc = plain cm_async [] []
builtin_row canon.BackpressureDec = plain cm_async [] []
builtin_row canon.TaskCancel = plain cm_async [] []
builtin_row (canon.ContextGet vt n) = row (feature cm_async ∷ slot_of vt n ∷ []) (core_func [] (word vt ∷ []))
builtin_row (canon.ContextSet vt n) = row (feature cm_async ∷ slot_of vt n ∷ []) (core_func (word vt ∷ []) [])
builtin_row canon.SubtaskDrop = plain cm_async (i32 ∷ []) []
builtin_row (canon.SubtaskCancel b) = row (feature cm_async ∷ more_where b ∷ []) (core_func (i32 ∷ []) (i32 ∷ []))
builtin_row (canon.StreamNew t) = row (feature cm_async ∷ stream_at t ∷ []) (core_func [] (i64 ∷ []))
builtin_row (canon.FutureNew t) = row (feature cm_async ∷ future_at t ∷ []) (core_func [] (i64 ∷ []))
builtin_row (canon.StreamForward t) = forwards (stream_at t)
builtin_row (canon.FutureForward t) = forwards (future_at t)
builtin_row (canon.StreamCancelRead t b) = cancels (stream_at t) b
builtin_row (canon.StreamCancelWrite t b) = cancels (stream_at t) b
builtin_row (canon.FutureCancelRead t b) = cancels (future_at t) b
builtin_row (canon.FutureCancelWrite t b) = cancels (future_at t) b
builtin_row (canon.StreamDropReadable t) = drops (stream_at t)
builtin_row (canon.StreamDropWritable t) = drops (stream_at t)
builtin_row (canon.FutureDropReadable t) = drops (future_at t)
builtin_row (canon.FutureDropWritable t) = drops (future_at t)
builtin_row canon.ErrorContextDrop = plain cm_error_context (i32 ∷ []) []
builtin_row canon.WaitableSetNew = plain cm_async [] (i32 ∷ [])
builtin_row (canon.WaitableSetWait m) = waits m
builtin_row (canon.WaitableSetPoll m) = waits m
builtin_row canon.WaitableSetDrop = plain cm_async (i32 ∷ []) []
builtin_row canon.WaitableJoin = plain cm_async (i32 ∷ i32 ∷ []) []
builtin_row canon.ThreadIndex = plain cm_threading [] (i32 ∷ [])
builtin_row (canon.ThreadNewIndirect t n) = row (feature cm_threading ∷ start_type_at t ∷ start_table_at n ∷ []) (core_func (element_word ∷ start_word ∷ []) (i32 ∷ []))
builtin_row canon.ThreadResumeLater = plain cm_threading (i32 ∷ []) []
builtin_row canon.ThreadSuspend = plain cm_threading [] (i32 ∷ [])
builtin_row canon.ThreadYield = plain cm_async [] (i32 ∷ [])
builtin_row canon.ThreadSuspendThenResume = switches
builtin_row canon.ThreadYieldThenResume = switches
builtin_row canon.ThreadSuspendThenPromote = switches
builtin_row canon.ThreadYieldThenPromote = switches
-- those with options have forms of their own
builtin_row (canon.Lift f t os) = no_row
builtin_row (canon.Lower f os) = no_row
builtin_row (canon.TaskReturn r os) = no_row
builtin_row (canon.StreamRead t os) = no_row
builtin_row (canon.StreamWrite t os) = no_row
builtin_row (canon.FutureRead t os) = no_row
builtin_row (canon.FutureWrite t os) = no_row
builtin_row (canon.ErrorContextNew os) = no_row
builtin_row (canon.ErrorContextDebugMessage os) = no_row

abbrev pub canon_row : Canon_form → Row
canon_row (form.lift f t os) = row (lifts f t os ∷ []) (lifted t)
canon_row (form.lower f os) = row (bars of_lifting os ∷ async_func f os ∷ []) (lowered f)
canon_row (form.task_return r os) = row (feature cm_async ∷ no_borrow r ∷ bars (realloc_option ∷ async_option ∷ of_lifting) os ∷ []) (returning r)
canon_row (form.stream_read t os) = row (copies (stream_at t) (has_to_stand memory_option (with_payload of_stream t) os ∷ has_to_stand realloc_option (with_pointer of_stream t) os ∷ []) os) (core_func (i32 ∷ pointer_word ∷ pointer_word ∷ []) (pointer_word ∷ []))
canon_row (form.stream_write t os) = row (copies (stream_at t) (has_to_stand memory_option (with_payload of_stream t) os ∷ []) os) (core_func (i32 ∷ pointer_word ∷ pointer_word ∷ []) (pointer_word ∷ []))
canon_row (form.future_read t os) = row (copies (future_at t) (has_to_stand memory_option (with_payload of_future t) os ∷ has_to_stand realloc_option (with_pointer of_future t) os ∷ []) os) (core_func (i32 ∷ pointer_word ∷ []) (i32 ∷ []))
canon_row (form.future_write t os) = row (copies (future_at t) (has_to_stand memory_option (with_payload of_future t) os ∷ []) os) (core_func (i32 ∷ pointer_word ∷ []) (i32 ∷ []))
canon_row (form.error_context_new os) = row (feature cm_error_context ∷ bars (async_option ∷ of_lifting) os ∷ has_to_stand memory_option in_any_case os ∷ []) (core_func (pointer_word ∷ pointer_word ∷ []) (i32 ∷ []))
canon_row (form.error_context_message os) = row (feature cm_error_context ∷ bars (async_option ∷ of_lifting) os ∷ has_to_stand memory_option in_any_case os ∷ has_to_stand realloc_option in_any_case os ∷ []) (core_func (i32 ∷ pointer_word ∷ []) [])
canon_row (form.builtin f) = builtin_row f

-- the list of options, where one is written
abbrev pub options_in : Canon_form → Option (List CanonicalOption)
options_in (form.lift f t os) = Some os
options_in (form.lower f os) = Some os
options_in (form.task_return r os) = Some os
options_in (form.stream_read t os) = Some os
options_in (form.stream_write t os) = Some os
options_in (form.future_read t os) = Some os
options_in (form.future_write t os) = Some os
options_in (form.error_context_new os) = Some os
options_in (form.error_context_message os) = Some os
options_in (form.builtin f) = None
