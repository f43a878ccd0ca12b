-- Canonical functions and their options, each by its byte.
use Rattle.std.specs.Prelude.{ℕ, List, [], ◌∷◌, Result, Ok, Err, ◌==◌, if◌then◌else◌, option_map}
use Rattle.wcv_syntax.specs.declared.canonical.CanonicalFunction.{CanonicalFunction}
use Rattle.wcv_syntax.specs.declared.canonical.CanonicalFunction.TheVariants as canon
use Rattle.wcv_syntax.specs.declared.canonical.CanonicalOption.{CanonicalOption}
use Rattle.wcv_syntax.specs.declared.canonical.CanonicalOption.TheVariants as option
use Rattle.wcv_syntax.specs.Model.{Canon_form, lift, lower, task_return, stream_read, stream_write, future_read, future_write, error_context_new, error_context_message, builtin}
use Rattle.wcv_bytes.specs.declared.fault.Fault.{Fault}
use Rattle.wcv_bytes.specs.declared.fault.Why.TheVariants.{Short, NotOption, NotCanon, UnsupportedAsyncDrop}
use Rattle.wcv_binary.specs.CoreValues.{core_val_at}
use Rattle.wcv_bytes.specs.Reading.{◌>>=◌, fault, byte_at, flag_at, u32_at, zero_at, vec_at, under_byte, or_read, of_one, of_two}
use Rattle.wcv_binary.specs.Values.{result_at}

-- ## Options

unfoldable pub option_at : List ℕ → Result (CanonicalOption × List ℕ) Fault
option_at [] = Err (fault Short [])
option_at (b ∷ rest) =
    if b == 0 then Ok (option.UTF8, rest)
    else if b == 1 then Ok (option.UTF16, rest)
    else if b == 2 then Ok (option.CompactUTF16, rest)
    else if b == 3 then of_one u32_at option.Memory rest
    else if b == 4 then of_one u32_at option.Realloc rest
    else if b == 5 then of_one u32_at option.PostReturn rest
    else if b == 6 then Ok (option.Async, rest)
    else if b == 7 then of_one u32_at option.Callback rest
    else if b == 8 then of_one u32_at option.CoreType rest
    else if b == 9 then Ok (option.Gc, rest)
    else Err (fault NotOption (b ∷ rest))

abbrev pub options_at : List ℕ → Result (List CanonicalOption × List ℕ) Fault
options_at bytes = vec_at option_at bytes

-- ## Canonical functions

-- those without operands
abbrev pub plain_canons : List (ℕ × CanonicalFunction)
plain_canons =
    (0x05, canon.TaskCancel)
    ∷ (0x0D, canon.SubtaskDrop)
    ∷ (0x1E, canon.ErrorContextDrop)
    ∷ (0x1F, canon.WaitableSetNew)
    ∷ (0x22, canon.WaitableSetDrop)
    ∷ (0x23, canon.WaitableJoin)
    ∷ (0x24, canon.BackpressureInc)
    ∷ (0x25, canon.BackpressureDec)
    ∷ (0x26, canon.ThreadIndex)
    ∷ (0x2A, canon.ThreadResumeLater)
    ∷ (0x42, canon.ThreadAvailableParallelism) ∷ []

-- one of them. A resource that is dropped asynchronously has no form
unfoldable pub plain_canon_at : List ℕ → Result (Canon_form × List ℕ) Fault
plain_canon_at bytes = do
  b ← byte_at bytes
  or_read (option_map builtin (under_byte plain_canons b.0)) b.1 (Err (fault (if b.0 == 0x07 then UnsupportedAsyncDrop else NotCanon) bytes))

-- one that waits or lets other threads run, or one of those above: whether it can be cancelled is read, and no form says it
unfoldable pub waiting_canon_at : List ℕ → Result (Canon_form × List ℕ) Fault
waiting_canon_at bytes = do
  b ← byte_at bytes
  if b.0 == 0x0C then of_one flag_at (λ _. builtin canon.ThreadYield) b.1
      else if b.0 == 0x20 then of_two flag_at u32_at (λ _ m. builtin (canon.WaitableSetWait m)) b.1
      else if b.0 == 0x21 then of_two flag_at u32_at (λ _ m. builtin (canon.WaitableSetPoll m)) b.1
      else if b.0 == 0x28 then of_one flag_at (λ _. builtin canon.ThreadSuspendThenResume) b.1
      else if b.0 == 0x29 then of_one flag_at (λ _. builtin canon.ThreadSuspend) b.1
      else if b.0 == 0x2B then of_one flag_at (λ _. builtin canon.ThreadYieldThenResume) b.1
      else if b.0 == 0x2C then of_one flag_at (λ _. builtin canon.ThreadSuspendThenPromote) b.1
      else plain_canon_at bytes

-- one that cancels, one with a core type and a table or a slot, or one of those above
unfoldable pub paired_canon_at : List ℕ → Result (Canon_form × List ℕ) Fault
paired_canon_at bytes = do
  b ← byte_at bytes
  if b.0 == 0x06 then of_one flag_at (λ a. builtin (canon.SubtaskCancel a)) b.1
      else if b.0 == 0x0A then of_two core_val_at u32_at (λ t n. builtin (canon.ContextGet t n)) b.1
      else if b.0 == 0x0B then of_two core_val_at u32_at (λ t n. builtin (canon.ContextSet t n)) b.1
      else if b.0 == 0x11 then of_two u32_at flag_at (λ t a. builtin (canon.StreamCancelRead t a)) b.1
      else if b.0 == 0x12 then of_two u32_at flag_at (λ t a. builtin (canon.StreamCancelWrite t a)) b.1
      else if b.0 == 0x18 then of_two u32_at flag_at (λ t a. builtin (canon.FutureCancelRead t a)) b.1
      else if b.0 == 0x19 then of_two u32_at flag_at (λ t a. builtin (canon.FutureCancelWrite t a)) b.1
      else if b.0 == 0x27 then of_two u32_at u32_at (λ t n. builtin (canon.ThreadNewIndirect t n)) b.1
      else if b.0 == 0x41 then of_two u32_at u32_at (λ t n. builtin (canon.ThreadSpawnIndirect t n)) b.1
      else waiting_canon_at bytes

-- one of a type alone, or one of those above
unfoldable pub typed_canon_at : List ℕ → Result (Canon_form × List ℕ) Fault
typed_canon_at bytes = do
  b ← byte_at bytes
  if b.0 == 0x02 then of_one u32_at (λ t. builtin (canon.ResourceNew t)) b.1
      else if b.0 == 0x03 then of_one u32_at (λ t. builtin (canon.ResourceDrop t)) b.1
      else if b.0 == 0x04 then of_one u32_at (λ t. builtin (canon.ResourceRep t)) b.1
      else if b.0 == 0x0E then of_one u32_at (λ t. builtin (canon.StreamNew t)) b.1
      else if b.0 == 0x13 then of_one u32_at (λ t. builtin (canon.StreamDropReadable t)) b.1
      else if b.0 == 0x14 then of_one u32_at (λ t. builtin (canon.StreamDropWritable t)) b.1
      else if b.0 == 0x15 then of_one u32_at (λ t. builtin (canon.FutureNew t)) b.1
      else if b.0 == 0x1A then of_one u32_at (λ t. builtin (canon.FutureDropReadable t)) b.1
      else if b.0 == 0x1B then of_one u32_at (λ t. builtin (canon.FutureDropWritable t)) b.1
      else if b.0 == 0x40 then of_one u32_at (λ t. builtin (canon.ThreadSpawnRef t)) b.1
      else paired_canon_at bytes

-- a core function, options and a type, behind the sort of functions
unfoldable pub lift_at : List ℕ → Result (Canon_form × List ℕ) Fault
lift_at bytes = do
  rest ← zero_at bytes
  f ← u32_at rest
  os ← options_at f.1
  t ← u32_at os.1
  Ok (lift f.0 t.0 os.0, t.1)

-- a function and options, behind the sort of functions
unfoldable pub lower_at : List ℕ → Result (Canon_form × List ℕ) Fault
lower_at bytes = do
  rest ← zero_at bytes
  of_two u32_at options_at lower rest

-- one with options, or one of those above
unfoldable pub canon_at : List ℕ → Result (Canon_form × List ℕ) Fault
canon_at bytes = do
  b ← byte_at bytes
  if b.0 == 0x00 then lift_at b.1
      else if b.0 == 0x01 then lower_at b.1
      else if b.0 == 0x09 then of_two result_at options_at task_return b.1
      else if b.0 == 0x0F then of_two u32_at options_at stream_read b.1
      else if b.0 == 0x10 then of_two u32_at options_at stream_write b.1
      else if b.0 == 0x16 then of_two u32_at options_at future_read b.1
      else if b.0 == 0x17 then of_two u32_at options_at future_write b.1
      else if b.0 == 0x1C then of_one options_at error_context_new b.1
      else if b.0 == 0x1D then of_one options_at error_context_message b.1
      else typed_canon_at bytes
