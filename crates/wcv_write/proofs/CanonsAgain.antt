-- Canonical functions and their options that are written are read again.
use Rattle.std.proofs.Common.{◌≡◌, ◌^◌, Some, None, refl, true, false, nat_lt, List}
use Rattle.wcv_syntax.specs.CanonRows.{canon_rows}
use Rattle.wcv_syntax.specs.Model.{Canon_form, lift, lower, task_return, stream_read, stream_write, future_read, future_write, error_context_new, error_context_message, builtin}
use Rattle.wcv_syntax.specs.declared.canonical.CanonicalFunction.{CanonicalFunction}
use Rattle.wcv_syntax.specs.declared.canonical.CanonicalFunction.TheVariants as canon
use Rattle.wcv_syntax.specs.declared.canonical.CanonicalOption.{CanonicalOption}
use Rattle.wcv_syntax.specs.declared.canonical.CanonicalOption.TheVariants as option
use Rattle.wcv_listing.specs.Canons.{option_of, canon_named, canon_of}
use Rattle.wcv_listing.specs.Fields.{array_of}
use Rattle.wcv_write.specs.Canons.{option_data, options_data, builtin_data, canon_data}
use Rattle.wcv_write.specs.Indices.{numbers}
use Rattle.wcv_write.specs.Sayable.{SaysAll, SaysOption, SaysBuiltin, SaysCanon}
use Rattle.wcv_write.proofs.FormsAgain.{value_again, core_value_again, list_again}

option_again : (o : CanonicalOption) → SaysOption o → option_of (option_data numbers o) ≡ Some o
unfolding option_data
option_again option.UTF8 h = refl
option_again option.UTF16 h = refl
option_again option.CompactUTF16 h = refl
option_again (option.Memory k) h = let low : nat_lt k (2 ^ 32) ≡ true = h in rw low refl
option_again (option.Realloc k) h = let low : nat_lt k (2 ^ 32) ≡ true = h in rw low refl
option_again (option.PostReturn k) h = let low : nat_lt k (2 ^ 32) ≡ true = h in rw low refl
option_again option.Async h = refl
option_again (option.Callback k) h = let low : nat_lt k (2 ^ 32) ≡ true = h in rw low refl
option_again (option.CoreType k) h = let low : nat_lt k (2 ^ 32) ≡ true = h in rw low refl
option_again option.Gc h = refl

options_again : (os : List CanonicalOption) → SaysAll SaysOption os → array_of option_of (options_data numbers os) ≡ Some os
options_again os h = list_again option_of (option_data numbers) SaysOption option_again os h

builtin_again : (f : CanonicalFunction) → SaysBuiltin f → canon_of (builtin_data numbers f) ≡ Some (builtin f)
unfolding builtin_data canon_named canon_rows
builtin_again canon.ThreadAvailableParallelism h = refl
builtin_again canon.BackpressureInc h = refl
builtin_again canon.BackpressureDec h = refl
builtin_again canon.TaskCancel h = refl
builtin_again canon.SubtaskDrop h = refl
builtin_again canon.ErrorContextDrop h = refl
builtin_again canon.WaitableSetNew h = refl
builtin_again canon.WaitableSetDrop h = refl
builtin_again canon.WaitableJoin h = refl
builtin_again canon.ThreadIndex h = refl
builtin_again canon.ThreadSuspend h = refl
builtin_again canon.ThreadResumeLater h = refl
builtin_again canon.ThreadYield h = refl
builtin_again canon.ThreadSuspendThenResume h = refl
builtin_again canon.ThreadYieldThenResume h = refl
builtin_again canon.ThreadSuspendThenPromote h = refl
builtin_again canon.ThreadYieldThenPromote h = refl
builtin_again (canon.ResourceNew k) h = let low : nat_lt k (2 ^ 32) ≡ true = h in rw low refl
builtin_again (canon.ResourceDrop k) h = let low : nat_lt k (2 ^ 32) ≡ true = h in rw low refl
builtin_again (canon.ResourceRep k) h = let low : nat_lt k (2 ^ 32) ≡ true = h in rw low refl
builtin_again (canon.StreamNew k) h = let low : nat_lt k (2 ^ 32) ≡ true = h in rw low refl
builtin_again (canon.StreamForward k) h = let low : nat_lt k (2 ^ 32) ≡ true = h in rw low refl
builtin_again (canon.StreamDropReadable k) h = let low : nat_lt k (2 ^ 32) ≡ true = h in rw low refl
builtin_again (canon.StreamDropWritable k) h = let low : nat_lt k (2 ^ 32) ≡ true = h in rw low refl
builtin_again (canon.FutureNew k) h = let low : nat_lt k (2 ^ 32) ≡ true = h in rw low refl
builtin_again (canon.FutureForward k) h = let low : nat_lt k (2 ^ 32) ≡ true = h in rw low refl
builtin_again (canon.FutureDropReadable k) h = let low : nat_lt k (2 ^ 32) ≡ true = h in rw low refl
builtin_again (canon.FutureDropWritable k) h = let low : nat_lt k (2 ^ 32) ≡ true = h in rw low refl
builtin_again (canon.WaitableSetWait k) h = let low : nat_lt k (2 ^ 32) ≡ true = h in rw low refl
builtin_again (canon.WaitableSetPoll k) h = let low : nat_lt k (2 ^ 32) ≡ true = h in rw low refl
builtin_again (canon.ContextGet v k) h = let low : nat_lt k (2 ^ 32) ≡ true = h.1 in rw (core_value_again v h.0, low) refl
builtin_again (canon.ContextSet v k) h = let low : nat_lt k (2 ^ 32) ≡ true = h.1 in rw (core_value_again v h.0, low) refl
builtin_again (canon.ThreadSpawnRef k) h = let low : nat_lt k (2 ^ 32) ≡ true = h in rw low refl
builtin_again (canon.ThreadSpawnIndirect k n) h = let low : nat_lt k (2 ^ 32) ≡ true = h.0 in let less : nat_lt n (2 ^ 32) ≡ true = h.1 in rw (low, less) refl
builtin_again (canon.ThreadNewIndirect k n) h = let low : nat_lt k (2 ^ 32) ≡ true = h.0 in let less : nat_lt n (2 ^ 32) ≡ true = h.1 in rw (low, less) refl
builtin_again (canon.SubtaskCancel true) h = refl
builtin_again (canon.SubtaskCancel false) h = refl
builtin_again (canon.StreamCancelRead k true) h = let low : nat_lt k (2 ^ 32) ≡ true = h in rw low refl
builtin_again (canon.StreamCancelRead k false) h = let low : nat_lt k (2 ^ 32) ≡ true = h in rw low refl
builtin_again (canon.StreamCancelWrite k true) h = let low : nat_lt k (2 ^ 32) ≡ true = h in rw low refl
builtin_again (canon.StreamCancelWrite k false) h = let low : nat_lt k (2 ^ 32) ≡ true = h in rw low refl
builtin_again (canon.FutureCancelRead k true) h = let low : nat_lt k (2 ^ 32) ≡ true = h in rw low refl
builtin_again (canon.FutureCancelRead k false) h = let low : nat_lt k (2 ^ 32) ≡ true = h in rw low refl
builtin_again (canon.FutureCancelWrite k true) h = let low : nat_lt k (2 ^ 32) ≡ true = h in rw low refl
builtin_again (canon.FutureCancelWrite k false) h = let low : nat_lt k (2 ^ 32) ≡ true = h in rw low refl
builtin_again (canon.Lift f t os) h = absurd (cc)
builtin_again (canon.Lower f os) h = absurd (cc)
builtin_again (canon.TaskReturn r os) h = absurd (cc)
builtin_again (canon.StreamRead t os) h = absurd (cc)
builtin_again (canon.StreamWrite t os) h = absurd (cc)
builtin_again (canon.FutureRead t os) h = absurd (cc)
builtin_again (canon.FutureWrite t os) h = absurd (cc)
builtin_again (canon.ErrorContextNew os) h = absurd (cc)
builtin_again (canon.ErrorContextDebugMessage os) h = absurd (cc)

pub canon_again : (f : Canon_form) → SaysCanon f → canon_of (canon_data numbers f) ≡ Some f
unfolding canon_data canon_named canon_rows
canon_again (lift f t os) h = let low : nat_lt f (2 ^ 32) ≡ true = h.0 in let less : nat_lt t (2 ^ 32) ≡ true = h.1 in rw (low, less, options_again os h.2) refl
canon_again (lower f os) h = let low : nat_lt f (2 ^ 32) ≡ true = h.0 in rw (low, options_again os h.1) refl
canon_again (task_return None os) h = rw (options_again os h.1) refl
canon_again (task_return (Some v) os) h = rw (value_again v h.0, options_again os h.1) refl
canon_again (stream_read k os) h = let low : nat_lt k (2 ^ 32) ≡ true = h.0 in rw (low, options_again os h.1) refl
canon_again (stream_write k os) h = let low : nat_lt k (2 ^ 32) ≡ true = h.0 in rw (low, options_again os h.1) refl
canon_again (future_read k os) h = let low : nat_lt k (2 ^ 32) ≡ true = h.0 in rw (low, options_again os h.1) refl
canon_again (future_write k os) h = let low : nat_lt k (2 ^ 32) ≡ true = h.0 in rw (low, options_again os h.1) refl
canon_again (error_context_new os) h = rw (options_again os h) refl
canon_again (error_context_message os) h = rw (options_again os h) refl
canon_again (builtin f) h = builtin_again f h
