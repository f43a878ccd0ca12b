-- Canonical functions and their options as bytes.
use Rattle.std.specs.Prelude.{None}
use Rattle.wcv_syntax.specs.declared.canonical.CanonicalFunction.{CanonicalFunction}
use Rattle.wcv_syntax.specs.declared.canonical.CanonicalFunction.TheVariants as canon
use Rattle.wcv_syntax.specs.declared.canonical.CanonicalOption.{CanonicalOption}
use Rattle.wcv_syntax.specs.declared.canonical.CanonicalOption.TheVariants as option
use Rattle.wcv_syntax.specs.Model.{Canon_form, lift, lower, task_return, stream_read, stream_write, future_read, future_write, error_context_new, error_context_message, builtin}
use Rattle.wcv_encode.specs.Bytes.{Bytes, ◌⧺◌, byte, flag, u32_bytes, vec}
use Rattle.wcv_encode.specs.CoreTypes.{val_bytes}
use Rattle.wcv_encode.specs.Values.{result_bytes}

unfoldable pub option_bytes : CanonicalOption → Bytes
option_bytes option.UTF8 = byte 0x00
option_bytes option.UTF16 = byte 0x01
option_bytes option.CompactUTF16 = byte 0x02
option_bytes (option.Memory i) = byte 0x03 ⧺ u32_bytes i
option_bytes (option.Realloc i) = byte 0x04 ⧺ u32_bytes i
option_bytes (option.PostReturn i) = byte 0x05 ⧺ u32_bytes i
option_bytes option.Async = byte 0x06
option_bytes (option.Callback i) = byte 0x07 ⧺ u32_bytes i
option_bytes (option.CoreType i) = byte 0x08 ⧺ u32_bytes i
option_bytes option.Gc = byte 0x09

-- Of functions that may be cancelled the flag that says so is 0.

-- threads; the one that is left has no bytes
unfoldable pub thread_bytes : CanonicalFunction → Bytes
thread_bytes canon.ThreadYield = byte 0x0C ⧺ byte 0
thread_bytes canon.ThreadIndex = byte 0x26
thread_bytes (canon.ThreadNewIndirect ty table) = byte 0x27 ⧺ u32_bytes ty ⧺ u32_bytes table
thread_bytes canon.ThreadSuspendThenResume = byte 0x28 ⧺ byte 0
thread_bytes canon.ThreadSuspend = byte 0x29 ⧺ byte 0
thread_bytes canon.ThreadResumeLater = byte 0x2A
thread_bytes canon.ThreadYieldThenResume = byte 0x2B ⧺ byte 0
thread_bytes canon.ThreadSuspendThenPromote = byte 0x2C ⧺ byte 0
thread_bytes (canon.ThreadSpawnRef ty) = byte 0x40 ⧺ u32_bytes ty
thread_bytes (canon.ThreadSpawnIndirect ty table) = byte 0x41 ⧺ u32_bytes ty ⧺ u32_bytes table
thread_bytes canon.ThreadAvailableParallelism = byte 0x42
thread_bytes f = None

-- contexts of errors and sets to wait for; else threads
unfoldable pub waitable_bytes : CanonicalFunction → Bytes
waitable_bytes canon.ErrorContextDrop = byte 0x1E
waitable_bytes canon.WaitableSetNew = byte 0x1F
waitable_bytes (canon.WaitableSetWait m) = byte 0x20 ⧺ byte 0 ⧺ u32_bytes m
waitable_bytes (canon.WaitableSetPoll m) = byte 0x21 ⧺ byte 0 ⧺ u32_bytes m
waitable_bytes canon.WaitableSetDrop = byte 0x22
waitable_bytes canon.WaitableJoin = byte 0x23
waitable_bytes canon.BackpressureInc = byte 0x24
waitable_bytes canon.BackpressureDec = byte 0x25
waitable_bytes f = thread_bytes f

-- streams and futures; a forward has no bytes; else what may be waited for
unfoldable pub stream_bytes : CanonicalFunction → Bytes
stream_bytes (canon.StreamNew t) = byte 0x0E ⧺ u32_bytes t
stream_bytes (canon.StreamCancelRead t async) = byte 0x11 ⧺ u32_bytes t ⧺ flag async
stream_bytes (canon.StreamCancelWrite t async) = byte 0x12 ⧺ u32_bytes t ⧺ flag async
stream_bytes (canon.StreamDropReadable t) = byte 0x13 ⧺ u32_bytes t
stream_bytes (canon.StreamDropWritable t) = byte 0x14 ⧺ u32_bytes t
stream_bytes (canon.FutureNew t) = byte 0x15 ⧺ u32_bytes t
stream_bytes (canon.FutureCancelRead t async) = byte 0x18 ⧺ u32_bytes t ⧺ flag async
stream_bytes (canon.FutureCancelWrite t async) = byte 0x19 ⧺ u32_bytes t ⧺ flag async
stream_bytes (canon.FutureDropReadable t) = byte 0x1A ⧺ u32_bytes t
stream_bytes (canon.FutureDropWritable t) = byte 0x1B ⧺ u32_bytes t
stream_bytes f = waitable_bytes f

-- resources and tasks; else streams and futures
unfoldable pub builtin_bytes : CanonicalFunction → Bytes
builtin_bytes (canon.ResourceNew r) = byte 0x02 ⧺ u32_bytes r
builtin_bytes (canon.ResourceDrop r) = byte 0x03 ⧺ u32_bytes r
builtin_bytes (canon.ResourceRep r) = byte 0x04 ⧺ u32_bytes r
builtin_bytes canon.TaskCancel = byte 0x05
builtin_bytes (canon.SubtaskCancel async) = byte 0x06 ⧺ flag async
builtin_bytes (canon.ContextGet t slot) = byte 0x0A ⧺ val_bytes t ⧺ u32_bytes slot
builtin_bytes (canon.ContextSet t slot) = byte 0x0B ⧺ val_bytes t ⧺ u32_bytes slot
builtin_bytes canon.SubtaskDrop = byte 0x0D
builtin_bytes f = stream_bytes f

unfoldable pub canon_bytes : Canon_form → Bytes
canon_bytes (lift f t os) = byte 0x00 ⧺ byte 0x00 ⧺ u32_bytes f ⧺ vec option_bytes os ⧺ u32_bytes t
canon_bytes (lower f os) = byte 0x01 ⧺ byte 0x00 ⧺ u32_bytes f ⧺ vec option_bytes os
canon_bytes (task_return r os) = byte 0x09 ⧺ result_bytes r ⧺ vec option_bytes os
canon_bytes (stream_read t os) = byte 0x0F ⧺ u32_bytes t ⧺ vec option_bytes os
canon_bytes (stream_write t os) = byte 0x10 ⧺ u32_bytes t ⧺ vec option_bytes os
canon_bytes (future_read t os) = byte 0x16 ⧺ u32_bytes t ⧺ vec option_bytes os
canon_bytes (future_write t os) = byte 0x17 ⧺ u32_bytes t ⧺ vec option_bytes os
canon_bytes (error_context_new os) = byte 0x1C ⧺ vec option_bytes os
canon_bytes (error_context_message os) = byte 0x1D ⧺ vec option_bytes os
canon_bytes (builtin f) = builtin_bytes f
