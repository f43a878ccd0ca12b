-- The canonical functions as they are written: of each its name, its operands, and what it is with these.
use Rattle.std.specs.Prelude.{ℕ, List, [], ◌∷◌, ◌++◌, map, Bool, Option, codes}
use Rattle.wcv_core.specs.declared.core_types.ValType.{ValType}
use Rattle.wcv_syntax.specs.Model.{Text, Canon_form, lift, lower, task_return, stream_read, stream_write, future_read, future_write, error_context_new, error_context_message, builtin}
use Rattle.wcv_syntax.specs.declared.canonical.CanonicalFunction.{CanonicalFunction}
use Rattle.wcv_syntax.specs.declared.canonical.CanonicalFunction.TheVariants as canon
use Rattle.wcv_syntax.specs.declared.canonical.CanonicalOperands.{CanonicalOperands}
use Rattle.wcv_syntax.specs.declared.canonical.CanonicalOperands.TheVariants as shown
use Rattle.wcv_syntax.specs.declared.canonical.CanonicalOption.{CanonicalOption}
use Rattle.wcv_syntax.specs.declared.component_type.ComponentValType.{ComponentValType}

-- ## Operands

pub data Operand : Type 0 where
  -- indices, each of its space
  core_func_index core_type_index memory_index table_index type_index func_index : Operand
  core_value_type option_value_type slot_number truth option_list : Operand

pub data Operands : Type 0 where
  -- none, as null
  no_operands : Operands
  -- one, as it is
  alone : Operand → Operands
  -- an object with these keys
  keys : List (Text × Operand) → Operands

-- what an operand is: a number, where nothing else is said
abbrev pub Value : Operand → Type 0
Value core_value_type = ValType
Value option_value_type = Option ComponentValType
Value truth = Bool
Value option_list = List CanonicalOption
Value o = ℕ

-- a canonical function, once the operands under these keys are given one after the other
abbrev pub Keyed : List (Text × Operand) → Type 0
Keyed [] = Canon_form
Keyed (k ∷ ks) = Value k.1 → Keyed ks

-- so of all operands
abbrev pub Given : Operands → Type 0
Given no_operands = Canon_form
Given (alone o) = Value o → Canon_form
Given (keys ks) = Keyed ks

-- ## Rows

-- how it is written, and what it is
pub record Written : Type 0 where
  pub operands : Operands
  pub form : Given operands

abbrev pub written : (os : Operands) → Given os → Written
written os f = record { operands = os; form = f }

abbrev options_key : Text × Operand
options_key = (codes "options", option_list)

abbrev async_key : Text × Operand
async_key = (codes "async", truth)

abbrev type_key : Operand → Text × Operand
type_key o = (codes "type", o)

abbrev table_key : Text × Operand
table_key = (codes "table", table_index)

abbrev pub lift_operands : Operands
lift_operands = keys ((codes "core", core_func_index) ∷ type_key type_index ∷ options_key ∷ [])

abbrev pub lower_operands : Operands
lower_operands = keys ((codes "func", func_index) ∷ options_key ∷ [])

abbrev pub result_and_options : Operands
result_and_options = keys ((codes "result", option_value_type) ∷ options_key ∷ [])

abbrev pub type_and_options : Operands
type_and_options = keys (type_key type_index ∷ options_key ∷ [])

abbrev pub options_alone : Operands
options_alone = keys (options_key ∷ [])

abbrev pub type_and_slot : Operands
type_and_slot = keys (type_key core_value_type ∷ (codes "slot", slot_number) ∷ [])

abbrev pub type_and_table : Operands
type_and_table = keys (type_key core_type_index ∷ table_key ∷ [])

abbrev pub core_type_alone : Operands
core_type_alone = keys (type_key core_type_index ∷ [])

abbrev pub async_alone : Operands
async_alone = keys (async_key ∷ [])

abbrev pub type_and_async : Operands
type_and_async = keys (type_key type_index ∷ async_key ∷ [])

-- those with options
abbrev pub option_rows : List (Text × Written)
option_rows =
    (codes "lift", written lift_operands lift)
    ∷ (codes "lower", written lower_operands lower)
    ∷ (codes "task.return", written result_and_options task_return)
    ∷ (codes "stream.read", written type_and_options stream_read)
    ∷ (codes "stream.write", written type_and_options stream_write)
    ∷ (codes "future.read", written type_and_options future_read)
    ∷ (codes "future.write", written type_and_options future_write)
    ∷ (codes "error-context.new", written options_alone error_context_new)
    ∷ (codes "error-context.debug-message", written options_alone error_context_message) ∷ []

-- those with other operands than a type alone
abbrev pub operand_rows : List (Text × Written)
operand_rows =
    (codes "context.get", written type_and_slot (λ v n. builtin (canon.ContextGet v n)))
    ∷ (codes "context.set", written type_and_slot (λ v n. builtin (canon.ContextSet v n)))
    ∷ (codes "thread.spawn-ref", written core_type_alone (λ t. builtin (canon.ThreadSpawnRef t)))
    ∷ (codes "thread.spawn-indirect", written type_and_table (λ t n. builtin (canon.ThreadSpawnIndirect t n)))
    ∷ (codes "thread.new-indirect", written type_and_table (λ t n. builtin (canon.ThreadNewIndirect t n)))
    ∷ (codes "subtask.cancel", written async_alone (λ b. builtin (canon.SubtaskCancel b)))
    ∷ (codes "stream.cancel-read", written type_and_async (λ t b. builtin (canon.StreamCancelRead t b)))
    ∷ (codes "stream.cancel-write", written type_and_async (λ t b. builtin (canon.StreamCancelWrite t b)))
    ∷ (codes "future.cancel-read", written type_and_async (λ t b. builtin (canon.FutureCancelRead t b)))
    ∷ (codes "future.cancel-write", written type_and_async (λ t b. builtin (canon.FutureCancelWrite t b)))
    ∷ (codes "waitable-set.wait", written (alone memory_index) (λ m. builtin (canon.WaitableSetWait m)))
    ∷ (codes "waitable-set.poll", written (alone memory_index) (λ m. builtin (canon.WaitableSetPoll m))) ∷ []

-- those without operands
abbrev pub plain_forms : List (Text × CanonicalFunction)
plain_forms =
    (codes "thread.available-parallelism", canon.ThreadAvailableParallelism)
    ∷ (codes "backpressure.inc", canon.BackpressureInc)
    ∷ (codes "backpressure.dec", canon.BackpressureDec)
    ∷ (codes "task.cancel", canon.TaskCancel)
    ∷ (codes "subtask.drop", canon.SubtaskDrop)
    ∷ (codes "error-context.drop", canon.ErrorContextDrop)
    ∷ (codes "waitable-set.new", canon.WaitableSetNew)
    ∷ (codes "waitable-set.drop", canon.WaitableSetDrop)
    ∷ (codes "waitable.join", canon.WaitableJoin)
    ∷ (codes "thread.index", canon.ThreadIndex)
    ∷ (codes "thread.suspend", canon.ThreadSuspend)
    ∷ (codes "thread.resume-later", canon.ThreadResumeLater)
    ∷ (codes "thread.yield", canon.ThreadYield)
    ∷ (codes "thread.suspend-then-resume", canon.ThreadSuspendThenResume)
    ∷ (codes "thread.yield-then-resume", canon.ThreadYieldThenResume)
    ∷ (codes "thread.suspend-then-promote", canon.ThreadSuspendThenPromote)
    ∷ (codes "thread.yield-then-promote", canon.ThreadYieldThenPromote) ∷ []

-- those of a type alone
abbrev pub type_forms : List (Text × (ℕ → CanonicalFunction))
type_forms =
    (codes "resource.new", canon.ResourceNew)
    ∷ (codes "resource.drop", canon.ResourceDrop)
    ∷ (codes "resource.rep", canon.ResourceRep)
    ∷ (codes "stream.new", canon.StreamNew)
    ∷ (codes "stream.forward", canon.StreamForward)
    ∷ (codes "stream.drop-readable", canon.StreamDropReadable)
    ∷ (codes "stream.drop-writable", canon.StreamDropWritable)
    ∷ (codes "future.new", canon.FutureNew)
    ∷ (codes "future.forward", canon.FutureForward)
    ∷ (codes "future.drop-readable", canon.FutureDropReadable)
    ∷ (codes "future.drop-writable", canon.FutureDropWritable) ∷ []

abbrev pub plain_row : Text × CanonicalFunction → Text × Written
plain_row row = (row.0, written no_operands (builtin row.1))

abbrev pub type_row : Text × (ℕ → CanonicalFunction) → Text × Written
type_row row = (row.0, written (alone type_index) (λ k. builtin (row.1 k)))

abbrev pub plain_rows : List (Text × Written)
plain_rows = map plain_row plain_forms

abbrev pub type_rows : List (Text × Written)
type_rows = map type_row type_forms

-- all, by their names
unfoldable pub canon_rows : List (Text × Written)
canon_rows = option_rows ++ (operand_rows ++ (plain_rows ++ type_rows))

-- ## As they are shown

-- the name of each
abbrev pub canon_name : CanonicalFunction → Text
canon_name (canon.Lift f t os) = codes "lift"
canon_name (canon.Lower f os) = codes "lower"
canon_name (canon.ResourceNew k) = codes "resource.new"
canon_name (canon.ResourceDrop k) = codes "resource.drop"
canon_name (canon.ResourceRep k) = codes "resource.rep"
canon_name (canon.ThreadSpawnRef t) = codes "thread.spawn-ref"
canon_name (canon.ThreadSpawnIndirect t n) = codes "thread.spawn-indirect"
canon_name canon.ThreadAvailableParallelism = codes "thread.available-parallelism"
canon_name canon.BackpressureInc = codes "backpressure.inc"
canon_name canon.BackpressureDec = codes "backpressure.dec"
canon_name canon.TaskCancel = codes "task.cancel"
canon_name (canon.TaskReturn r os) = codes "task.return"
canon_name (canon.ContextGet v n) = codes "context.get"
canon_name (canon.ContextSet v n) = codes "context.set"
canon_name canon.SubtaskDrop = codes "subtask.drop"
canon_name (canon.SubtaskCancel b) = codes "subtask.cancel"
canon_name (canon.StreamNew t) = codes "stream.new"
canon_name (canon.StreamRead t os) = codes "stream.read"
canon_name (canon.StreamWrite t os) = codes "stream.write"
canon_name (canon.StreamForward t) = codes "stream.forward"
canon_name (canon.StreamCancelRead t b) = codes "stream.cancel-read"
canon_name (canon.StreamCancelWrite t b) = codes "stream.cancel-write"
canon_name (canon.StreamDropReadable t) = codes "stream.drop-readable"
canon_name (canon.StreamDropWritable t) = codes "stream.drop-writable"
canon_name (canon.FutureNew t) = codes "future.new"
canon_name (canon.FutureRead t os) = codes "future.read"
canon_name (canon.FutureWrite t os) = codes "future.write"
canon_name (canon.FutureForward t) = codes "future.forward"
canon_name (canon.FutureCancelRead t b) = codes "future.cancel-read"
canon_name (canon.FutureCancelWrite t b) = codes "future.cancel-write"
canon_name (canon.FutureDropReadable t) = codes "future.drop-readable"
canon_name (canon.FutureDropWritable t) = codes "future.drop-writable"
canon_name (canon.ErrorContextNew os) = codes "error-context.new"
canon_name (canon.ErrorContextDebugMessage os) = codes "error-context.debug-message"
canon_name canon.ErrorContextDrop = codes "error-context.drop"
canon_name canon.WaitableSetNew = codes "waitable-set.new"
canon_name (canon.WaitableSetWait m) = codes "waitable-set.wait"
canon_name (canon.WaitableSetPoll m) = codes "waitable-set.poll"
canon_name canon.WaitableSetDrop = codes "waitable-set.drop"
canon_name canon.WaitableJoin = codes "waitable.join"
canon_name canon.ThreadIndex = codes "thread.index"
canon_name (canon.ThreadNewIndirect t n) = codes "thread.new-indirect"
canon_name canon.ThreadResumeLater = codes "thread.resume-later"
canon_name canon.ThreadSuspend = codes "thread.suspend"
canon_name canon.ThreadYield = codes "thread.yield"
canon_name canon.ThreadSuspendThenResume = codes "thread.suspend-then-resume"
canon_name canon.ThreadYieldThenResume = codes "thread.yield-then-resume"
canon_name canon.ThreadSuspendThenPromote = codes "thread.suspend-then-promote"
canon_name canon.ThreadYieldThenPromote = codes "thread.yield-then-promote"

-- the operands of each, but for a list of options and what stands beside it
abbrev pub operands_of : CanonicalFunction → CanonicalOperands
operands_of (canon.Lift f t os) = shown.None
operands_of (canon.Lower f os) = shown.None
operands_of (canon.ResourceNew k) = shown.Type k
operands_of (canon.ResourceDrop k) = shown.Type k
operands_of (canon.ResourceRep k) = shown.Type k
operands_of (canon.ThreadSpawnRef t) = shown.CoreType t
operands_of (canon.ThreadSpawnIndirect t n) = shown.TypeAndTable t n
operands_of canon.ThreadAvailableParallelism = shown.None
operands_of canon.BackpressureInc = shown.None
operands_of canon.BackpressureDec = shown.None
operands_of canon.TaskCancel = shown.None
operands_of (canon.TaskReturn r os) = shown.None
operands_of (canon.ContextGet v n) = shown.TypeAndSlot v n
operands_of (canon.ContextSet v n) = shown.TypeAndSlot v n
operands_of canon.SubtaskDrop = shown.None
operands_of (canon.SubtaskCancel b) = shown.Async b
operands_of (canon.StreamNew t) = shown.Type t
operands_of (canon.StreamRead t os) = shown.None
operands_of (canon.StreamWrite t os) = shown.None
operands_of (canon.StreamForward t) = shown.Type t
operands_of (canon.StreamCancelRead t b) = shown.TypeAndAsync t b
operands_of (canon.StreamCancelWrite t b) = shown.TypeAndAsync t b
operands_of (canon.StreamDropReadable t) = shown.Type t
operands_of (canon.StreamDropWritable t) = shown.Type t
operands_of (canon.FutureNew t) = shown.Type t
operands_of (canon.FutureRead t os) = shown.None
operands_of (canon.FutureWrite t os) = shown.None
operands_of (canon.FutureForward t) = shown.Type t
operands_of (canon.FutureCancelRead t b) = shown.TypeAndAsync t b
operands_of (canon.FutureCancelWrite t b) = shown.TypeAndAsync t b
operands_of (canon.FutureDropReadable t) = shown.Type t
operands_of (canon.FutureDropWritable t) = shown.Type t
operands_of (canon.ErrorContextNew os) = shown.None
operands_of (canon.ErrorContextDebugMessage os) = shown.None
operands_of canon.ErrorContextDrop = shown.None
operands_of canon.WaitableSetNew = shown.None
operands_of (canon.WaitableSetWait m) = shown.Memory m
operands_of (canon.WaitableSetPoll m) = shown.Memory m
operands_of canon.WaitableSetDrop = shown.None
operands_of canon.WaitableJoin = shown.None
operands_of canon.ThreadIndex = shown.None
operands_of (canon.ThreadNewIndirect t n) = shown.TypeAndTable t n
operands_of canon.ThreadResumeLater = shown.None
operands_of canon.ThreadSuspend = shown.None
operands_of canon.ThreadYield = shown.None
operands_of canon.ThreadSuspendThenResume = shown.None
operands_of canon.ThreadYieldThenResume = shown.None
operands_of canon.ThreadSuspendThenPromote = shown.None
operands_of canon.ThreadYieldThenPromote = shown.None
