-- Canonical functions and their options are read again.
use Rattle.std.proofs.Common.{false, Ok, [], ◌∷◌, refl}
use Rattle.wcv_syntax.specs.declared.canonical.CanonicalFunction.{CanonicalFunction}
use Rattle.wcv_syntax.specs.declared.canonical.CanonicalFunction.TheVariants as canon
use Rattle.wcv_syntax.specs.declared.canonical.CanonicalOption.TheVariants as option
use Rattle.wcv_syntax.specs.Model.{lift, lower, task_return, stream_read, stream_write, future_read, future_write, error_context_new, error_context_message, builtin}
use Rattle.wcv_bytes.specs.Reading.{◌>>=◌, byte_at, flag_at, zero_at, of_one, of_two, u32_at}
use Rattle.wcv_binary.specs.Values.{result_at}
use Rattle.wcv_binary.specs.CoreValues.{core_val_at}
use Rattle.wcv_binary.specs.Canons.{option_at, options_at, plain_canon_at, waiting_canon_at, paired_canon_at, typed_canon_at, lift_at, lower_at, canon_at}
use Rattle.wcv_encode.specs.Bytes.{◌⧺◌, byte, flag, u32_bytes, vec}
use Rattle.wcv_encode.specs.Canons.{option_bytes, thread_bytes, waitable_bytes, stream_bytes, builtin_bytes, canon_bytes}
use Rattle.wcv_encode.specs.CoreTypes.{val_bytes}
use Rattle.wcv_encode.specs.Laws.{Reads, IsReadAgain}
use Rattle.wcv_encode.specs.Values.{result_bytes}
use Rattle.wcv_encode.proofs.Again.{behind, made, made_of_two, led, known}
use Rattle.wcv_encode.proofs.AgainCore.{val_again}
use Rattle.wcv_encode.proofs.AgainLists.{flag_again, vec_again}
use Rattle.wcv_encode.proofs.AgainNumbers.{u32_again}
use Rattle.wcv_encode.proofs.AgainValues.{result_again}

option_again : IsReadAgain option_at option_bytes
unfolding option_at option_bytes
option_again option.UTF8 = known (0 ∷ []) option_at option.UTF8 (λ rest. refl)
option_again option.UTF16 = known (1 ∷ []) option_at option.UTF16 (λ rest. refl)
option_again option.CompactUTF16 = known (2 ∷ []) option_at option.CompactUTF16 (λ rest. refl)
option_again (option.Memory i) = led 3 option_at (of_one u32_at option.Memory) (u32_bytes i) (option.Memory i) (λ rest. refl) (made u32_at option.Memory (u32_bytes i) i (u32_again i))
option_again (option.Realloc i) = led 4 option_at (of_one u32_at option.Realloc) (u32_bytes i) (option.Realloc i) (λ rest. refl) (made u32_at option.Realloc (u32_bytes i) i (u32_again i))
option_again (option.PostReturn i) = led 5 option_at (of_one u32_at option.PostReturn) (u32_bytes i) (option.PostReturn i) (λ rest. refl) (made u32_at option.PostReturn (u32_bytes i) i (u32_again i))
option_again option.Async = known (6 ∷ []) option_at option.Async (λ rest. refl)
option_again (option.Callback i) = led 7 option_at (of_one u32_at option.Callback) (u32_bytes i) (option.Callback i) (λ rest. refl) (made u32_at option.Callback (u32_bytes i) i (u32_again i))
option_again (option.CoreType i) = led 8 option_at (of_one u32_at option.CoreType) (u32_bytes i) (option.CoreType i) (λ rest. refl) (made u32_at option.CoreType (u32_bytes i) i (u32_again i))
option_again option.Gc = known (9 ∷ []) option_at option.Gc (λ rest. refl)

options_again : IsReadAgain options_at (vec option_bytes)
options_again os = vec_again option_at option_bytes option_again os

builtin_again : (f : CanonicalFunction) → Reads canon_at (builtin_bytes f) (builtin f)
unfolding canon_at typed_canon_at paired_canon_at waiting_canon_at plain_canon_at byte_at builtin_bytes stream_bytes waitable_bytes thread_bytes
builtin_again (canon.ResourceNew t) = led 0x2 canon_at (of_one u32_at (λ t. builtin (canon.ResourceNew t))) (u32_bytes t) (builtin (canon.ResourceNew t)) (λ rest. refl) (made u32_at (λ t. builtin (canon.ResourceNew t)) (u32_bytes t) t (u32_again t))
builtin_again (canon.ResourceDrop t) = led 0x3 canon_at (of_one u32_at (λ t. builtin (canon.ResourceDrop t))) (u32_bytes t) (builtin (canon.ResourceDrop t)) (λ rest. refl) (made u32_at (λ t. builtin (canon.ResourceDrop t)) (u32_bytes t) t (u32_again t))
builtin_again (canon.ResourceRep t) = led 0x4 canon_at (of_one u32_at (λ t. builtin (canon.ResourceRep t))) (u32_bytes t) (builtin (canon.ResourceRep t)) (λ rest. refl) (made u32_at (λ t. builtin (canon.ResourceRep t)) (u32_bytes t) t (u32_again t))
builtin_again (canon.StreamNew t) = led 0xe canon_at (of_one u32_at (λ t. builtin (canon.StreamNew t))) (u32_bytes t) (builtin (canon.StreamNew t)) (λ rest. refl) (made u32_at (λ t. builtin (canon.StreamNew t)) (u32_bytes t) t (u32_again t))
builtin_again (canon.StreamDropReadable t) = led 0x13 canon_at (of_one u32_at (λ t. builtin (canon.StreamDropReadable t))) (u32_bytes t) (builtin (canon.StreamDropReadable t)) (λ rest. refl) (made u32_at (λ t. builtin (canon.StreamDropReadable t)) (u32_bytes t) t (u32_again t))
builtin_again (canon.StreamDropWritable t) = led 0x14 canon_at (of_one u32_at (λ t. builtin (canon.StreamDropWritable t))) (u32_bytes t) (builtin (canon.StreamDropWritable t)) (λ rest. refl) (made u32_at (λ t. builtin (canon.StreamDropWritable t)) (u32_bytes t) t (u32_again t))
builtin_again (canon.FutureNew t) = led 0x15 canon_at (of_one u32_at (λ t. builtin (canon.FutureNew t))) (u32_bytes t) (builtin (canon.FutureNew t)) (λ rest. refl) (made u32_at (λ t. builtin (canon.FutureNew t)) (u32_bytes t) t (u32_again t))
builtin_again (canon.FutureDropReadable t) = led 0x1a canon_at (of_one u32_at (λ t. builtin (canon.FutureDropReadable t))) (u32_bytes t) (builtin (canon.FutureDropReadable t)) (λ rest. refl) (made u32_at (λ t. builtin (canon.FutureDropReadable t)) (u32_bytes t) t (u32_again t))
builtin_again (canon.FutureDropWritable t) = led 0x1b canon_at (of_one u32_at (λ t. builtin (canon.FutureDropWritable t))) (u32_bytes t) (builtin (canon.FutureDropWritable t)) (λ rest. refl) (made u32_at (λ t. builtin (canon.FutureDropWritable t)) (u32_bytes t) t (u32_again t))
builtin_again (canon.ThreadSpawnRef t) = led 0x40 canon_at (of_one u32_at (λ t. builtin (canon.ThreadSpawnRef t))) (u32_bytes t) (builtin (canon.ThreadSpawnRef t)) (λ rest. refl) (made u32_at (λ t. builtin (canon.ThreadSpawnRef t)) (u32_bytes t) t (u32_again t))
builtin_again canon.TaskCancel = known (0x5 ∷ []) canon_at (builtin canon.TaskCancel) (λ rest. refl)
builtin_again canon.SubtaskDrop = known (0xd ∷ []) canon_at (builtin canon.SubtaskDrop) (λ rest. refl)
builtin_again canon.ErrorContextDrop = known (0x1e ∷ []) canon_at (builtin canon.ErrorContextDrop) (λ rest. refl)
builtin_again canon.WaitableSetNew = known (0x1f ∷ []) canon_at (builtin canon.WaitableSetNew) (λ rest. refl)
builtin_again canon.WaitableSetDrop = known (0x22 ∷ []) canon_at (builtin canon.WaitableSetDrop) (λ rest. refl)
builtin_again canon.WaitableJoin = known (0x23 ∷ []) canon_at (builtin canon.WaitableJoin) (λ rest. refl)
builtin_again canon.BackpressureInc = known (0x24 ∷ []) canon_at (builtin canon.BackpressureInc) (λ rest. refl)
builtin_again canon.BackpressureDec = known (0x25 ∷ []) canon_at (builtin canon.BackpressureDec) (λ rest. refl)
builtin_again canon.ThreadIndex = known (0x26 ∷ []) canon_at (builtin canon.ThreadIndex) (λ rest. refl)
builtin_again canon.ThreadResumeLater = known (0x2a ∷ []) canon_at (builtin canon.ThreadResumeLater) (λ rest. refl)
builtin_again canon.ThreadAvailableParallelism = known (0x42 ∷ []) canon_at (builtin canon.ThreadAvailableParallelism) (λ rest. refl)
builtin_again (canon.ThreadYield) = led 0xc canon_at (of_one flag_at (λ _. builtin canon.ThreadYield)) (byte 0) (builtin (canon.ThreadYield)) (λ rest. refl) (made flag_at (λ _. builtin canon.ThreadYield) (flag false) false (flag_again false))
builtin_again (canon.ThreadSuspendThenResume) = led 0x28 canon_at (of_one flag_at (λ _. builtin canon.ThreadSuspendThenResume)) (byte 0) (builtin (canon.ThreadSuspendThenResume)) (λ rest. refl) (made flag_at (λ _. builtin canon.ThreadSuspendThenResume) (flag false) false (flag_again false))
builtin_again (canon.ThreadSuspend) = led 0x29 canon_at (of_one flag_at (λ _. builtin canon.ThreadSuspend)) (byte 0) (builtin (canon.ThreadSuspend)) (λ rest. refl) (made flag_at (λ _. builtin canon.ThreadSuspend) (flag false) false (flag_again false))
builtin_again (canon.ThreadYieldThenResume) = led 0x2b canon_at (of_one flag_at (λ _. builtin canon.ThreadYieldThenResume)) (byte 0) (builtin (canon.ThreadYieldThenResume)) (λ rest. refl) (made flag_at (λ _. builtin canon.ThreadYieldThenResume) (flag false) false (flag_again false))
builtin_again (canon.ThreadSuspendThenPromote) = led 0x2c canon_at (of_one flag_at (λ _. builtin canon.ThreadSuspendThenPromote)) (byte 0) (builtin (canon.ThreadSuspendThenPromote)) (λ rest. refl) (made flag_at (λ _. builtin canon.ThreadSuspendThenPromote) (flag false) false (flag_again false))
builtin_again (canon.WaitableSetWait m) = led 0x20 canon_at (of_two flag_at u32_at (λ _ m. builtin (canon.WaitableSetWait m))) (byte 0 ⧺ u32_bytes m) (builtin (canon.WaitableSetWait m)) (λ rest. refl) (made_of_two flag_at u32_at (λ _ m. builtin (canon.WaitableSetWait m)) (flag false) (u32_bytes m) false m (flag_again false) (u32_again m))
builtin_again (canon.WaitableSetPoll m) = led 0x21 canon_at (of_two flag_at u32_at (λ _ m. builtin (canon.WaitableSetPoll m))) (byte 0 ⧺ u32_bytes m) (builtin (canon.WaitableSetPoll m)) (λ rest. refl) (made_of_two flag_at u32_at (λ _ m. builtin (canon.WaitableSetPoll m)) (flag false) (u32_bytes m) false m (flag_again false) (u32_again m))
builtin_again (canon.SubtaskCancel a) = led 0x06 canon_at (of_one flag_at (λ a. builtin (canon.SubtaskCancel a))) (flag a) (builtin (canon.SubtaskCancel a)) (λ rest. refl) (made flag_at (λ a. builtin (canon.SubtaskCancel a)) (flag a) a (flag_again a))
builtin_again (canon.ContextGet t s) = led 0xa canon_at (of_two core_val_at u32_at (λ t s. builtin (canon.ContextGet t s))) (val_bytes t ⧺ u32_bytes s) (builtin (canon.ContextGet t s)) (λ rest. refl) (made_of_two core_val_at u32_at (λ t s. builtin (canon.ContextGet t s)) (val_bytes t) (u32_bytes s) t s (val_again t) (u32_again s))
builtin_again (canon.ContextSet t s) = led 0xb canon_at (of_two core_val_at u32_at (λ t s. builtin (canon.ContextSet t s))) (val_bytes t ⧺ u32_bytes s) (builtin (canon.ContextSet t s)) (λ rest. refl) (made_of_two core_val_at u32_at (λ t s. builtin (canon.ContextSet t s)) (val_bytes t) (u32_bytes s) t s (val_again t) (u32_again s))
builtin_again (canon.StreamCancelRead t a) = led 0x11 canon_at (of_two u32_at flag_at (λ t a. builtin (canon.StreamCancelRead t a))) (u32_bytes t ⧺ flag a) (builtin (canon.StreamCancelRead t a)) (λ rest. refl) (made_of_two u32_at flag_at (λ t a. builtin (canon.StreamCancelRead t a)) (u32_bytes t) (flag a) t a (u32_again t) (flag_again a))
builtin_again (canon.StreamCancelWrite t a) = led 0x12 canon_at (of_two u32_at flag_at (λ t a. builtin (canon.StreamCancelWrite t a))) (u32_bytes t ⧺ flag a) (builtin (canon.StreamCancelWrite t a)) (λ rest. refl) (made_of_two u32_at flag_at (λ t a. builtin (canon.StreamCancelWrite t a)) (u32_bytes t) (flag a) t a (u32_again t) (flag_again a))
builtin_again (canon.FutureCancelRead t a) = led 0x18 canon_at (of_two u32_at flag_at (λ t a. builtin (canon.FutureCancelRead t a))) (u32_bytes t ⧺ flag a) (builtin (canon.FutureCancelRead t a)) (λ rest. refl) (made_of_two u32_at flag_at (λ t a. builtin (canon.FutureCancelRead t a)) (u32_bytes t) (flag a) t a (u32_again t) (flag_again a))
builtin_again (canon.FutureCancelWrite t a) = led 0x19 canon_at (of_two u32_at flag_at (λ t a. builtin (canon.FutureCancelWrite t a))) (u32_bytes t ⧺ flag a) (builtin (canon.FutureCancelWrite t a)) (λ rest. refl) (made_of_two u32_at flag_at (λ t a. builtin (canon.FutureCancelWrite t a)) (u32_bytes t) (flag a) t a (u32_again t) (flag_again a))
builtin_again (canon.ThreadNewIndirect t s) = led 0x27 canon_at (of_two u32_at u32_at (λ t s. builtin (canon.ThreadNewIndirect t s))) (u32_bytes t ⧺ u32_bytes s) (builtin (canon.ThreadNewIndirect t s)) (λ rest. refl) (made_of_two u32_at u32_at (λ t s. builtin (canon.ThreadNewIndirect t s)) (u32_bytes t) (u32_bytes s) t s (u32_again t) (u32_again s))
builtin_again (canon.ThreadSpawnIndirect t s) = led 0x41 canon_at (of_two u32_at u32_at (λ t s. builtin (canon.ThreadSpawnIndirect t s))) (u32_bytes t ⧺ u32_bytes s) (builtin (canon.ThreadSpawnIndirect t s)) (λ rest. refl) (made_of_two u32_at u32_at (λ t s. builtin (canon.ThreadSpawnIndirect t s)) (u32_bytes t) (u32_bytes s) t s (u32_again t) (u32_again s))
builtin_again (canon.Lift f t os) = λ b rest e. absurd (cc)
builtin_again (canon.Lower f os) = λ b rest e. absurd (cc)
builtin_again (canon.TaskReturn r os) = λ b rest e. absurd (cc)
builtin_again (canon.StreamRead t os) = λ b rest e. absurd (cc)
builtin_again (canon.StreamWrite t os) = λ b rest e. absurd (cc)
builtin_again (canon.StreamForward t) = λ b rest e. absurd (cc)
builtin_again (canon.FutureRead t os) = λ b rest e. absurd (cc)
builtin_again (canon.FutureWrite t os) = λ b rest e. absurd (cc)
builtin_again (canon.FutureForward t) = λ b rest e. absurd (cc)
builtin_again (canon.ErrorContextNew os) = λ b rest e. absurd (cc)
builtin_again (canon.ErrorContextDebugMessage os) = λ b rest e. absurd (cc)
builtin_again (canon.ThreadYieldThenPromote) = λ b rest e. absurd (cc)

pub canon_again : IsReadAgain canon_at canon_bytes
unfolding canon_at lift_at lower_at zero_at byte_at canon_bytes
canon_again (lift f t os) =
    led 0 canon_at lift_at (byte 0 ⧺ u32_bytes f ⧺ vec option_bytes os ⧺ u32_bytes t) (lift f t os) (λ rest. refl)
    (led 0 lift_at (λ bytes. u32_at bytes >>= λ g. options_at g.1 >>= λ opts. u32_at opts.1 >>= λ ty. Ok (lift g.0 ty.0 opts.0, ty.1)) (u32_bytes f ⧺ vec option_bytes os ⧺ u32_bytes t) (lift f t os) (λ rest. refl)
    (behind u32_at (λ g. options_at g.1 >>= λ opts. u32_at opts.1 >>= λ ty. Ok (lift g.0 ty.0 opts.0, ty.1)) (u32_bytes f) (vec option_bytes os ⧺ u32_bytes t) f (lift f t os) (u32_again f)
    (made_of_two options_at u32_at (λ opts ty. lift f ty opts) (vec option_bytes os) (u32_bytes t) os t (options_again os) (u32_again t))))
canon_again (lower f os) =
    led 1 canon_at lower_at (byte 0 ⧺ u32_bytes f ⧺ vec option_bytes os) (lower f os) (λ rest. refl)
    (led 0 lower_at (of_two u32_at options_at lower) (u32_bytes f ⧺ vec option_bytes os) (lower f os) (λ rest. refl) (made_of_two u32_at options_at lower (u32_bytes f) (vec option_bytes os) f os (u32_again f) (options_again os)))
canon_again (task_return r os) = led 0x09 canon_at (of_two result_at options_at task_return) (result_bytes r ⧺ vec option_bytes os) (task_return r os) (λ rest. refl) (made_of_two result_at options_at task_return (result_bytes r) (vec option_bytes os) r os (result_again r) (options_again os))
canon_again (stream_read t os) = led 0x0F canon_at (of_two u32_at options_at stream_read) (u32_bytes t ⧺ vec option_bytes os) (stream_read t os) (λ rest. refl) (made_of_two u32_at options_at stream_read (u32_bytes t) (vec option_bytes os) t os (u32_again t) (options_again os))
canon_again (stream_write t os) = led 0x10 canon_at (of_two u32_at options_at stream_write) (u32_bytes t ⧺ vec option_bytes os) (stream_write t os) (λ rest. refl) (made_of_two u32_at options_at stream_write (u32_bytes t) (vec option_bytes os) t os (u32_again t) (options_again os))
canon_again (future_read t os) = led 0x16 canon_at (of_two u32_at options_at future_read) (u32_bytes t ⧺ vec option_bytes os) (future_read t os) (λ rest. refl) (made_of_two u32_at options_at future_read (u32_bytes t) (vec option_bytes os) t os (u32_again t) (options_again os))
canon_again (future_write t os) = led 0x17 canon_at (of_two u32_at options_at future_write) (u32_bytes t ⧺ vec option_bytes os) (future_write t os) (λ rest. refl) (made_of_two u32_at options_at future_write (u32_bytes t) (vec option_bytes os) t os (u32_again t) (options_again os))
canon_again (error_context_new os) = led 0x1C canon_at (of_one options_at error_context_new) (vec option_bytes os) (error_context_new os) (λ rest. refl) (made options_at error_context_new (vec option_bytes os) os (options_again os))
canon_again (error_context_message os) = led 0x1D canon_at (of_one options_at error_context_message) (vec option_bytes os) (error_context_message os) (λ rest. refl) (made options_at error_context_message (vec option_bytes os) os (options_again os))
canon_again (builtin f) = builtin_again f
