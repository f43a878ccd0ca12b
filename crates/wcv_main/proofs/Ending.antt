-- From a run that ended with what is due for its bytes to what its status says.
use Rattle.wcv_core.specs.Limits.{max_listing}
use Rattle.std.proofs.Common.{◌≡◌, ◌⊎◌, ℕ, ◌<◌, ◌≤◌, inl, inr, List, length, Option, Some, None, Result, Ok, Err, Bool, true, false, nat_lt, is_some, refl, sym, ap, ◌∙◌, subst, arith}
use Rattle.std.specs.Prelude.{if◌then◌else◌}
use Rattle.std.specs.Io.KnownBytes.{Appends}
use Rattle.std.proofs.lemmas.Bool.Decides.{nat_tests}
use Rattle.wcv_listing.specs.Listing.{Outcome, not_json, bad_shape, listed, outcome_of}
use Rattle.wcv_bytes.specs.declared.fault.BinaryFault.{BinaryFault}
use Rattle.wcv_bytes.specs.declared.class.Class.{Class}
use Rattle.wcv_bytes.specs.declared.class.Class.TheVariants as class
use Rattle.wcv_bytes.specs.Faults.{class_of}
use Rattle.wcv_binary.specs.Binary.{binary_of, binary_within}
use Rattle.wcv_main.specs.declared.reading.Reading.{Reading}
use Rattle.wcv_main.specs.declared.reading.Reading.TheVariants as reading
use Rattle.wcv_main.specs.declared.status.Status.{Status}
use Rattle.wcv_main.specs.declared.status.Status.TheVariants as status
use Rattle.wcv_main.specs.Answers.{Ends, Finishes, IsAnswer, MayStandIn}
use Rattle.wcv_main.specs.Codes.{code_of}
use Rattle.wcv_main.specs.Due.{Due, wrong_words, too_long, no_json, no_shape, binary_too_long, too_much_to_keep, no_binary, no_form, sections, listing, made, due_of_bytes, due_of_long, due_of_short, due_of_read, due_of_class, component_due, listing_due, max_listed_depth, due_of_outcome, due_of_number, usage, Binary_form, IsExpected}
use Rattle.wcv_main.specs.Faults.{Rose}
use Rattle.wcv_main.specs.Pump.{Goes}
use Rattle.wcv_main.specs.declared.pump.WriteError.{WriteError}
use Rattle.wcv_main.specs.declared.pump.WriteError.TheVariants as write_error
use Rattle.wcv_main.proofs.Answering.{long_due, some_due}
use Rattle.wcv_main.proofs.Known.{appends_nothing}

-- what is due for bytes, whatever they are
abbrev OfBytes : Due → Type 0
OfBytes wrong_words = ⊥
OfBytes too_long = Unit {0}
OfBytes no_json = Unit {0}
OfBytes (no_shape at) = Unit {0}
OfBytes binary_too_long = Unit {0}
OfBytes too_much_to_keep = Unit {0}
OfBytes (no_binary at) = Unit {0}
OfBytes (no_form at) = Unit {0}
OfBytes (sections features is end) = Unit {0}
OfBytes (listing features es end) = Unit {0}
OfBytes (made n) = ⊥

outcome_of_bytes : (o : Outcome) → OfBytes (due_of_outcome o)
outcome_of_bytes not_json = tt
outcome_of_bytes (bad_shape at) = tt
outcome_of_bytes (listed l) = tt

class_of_bytes : (c : Class) (at : ℕ) → OfBytes (due_of_class c at)
class_of_bytes class.Malformed at = tt
class_of_bytes class.Unsupported at = tt
class_of_bytes class.TooMuch at = tt

read_of_bytes : (due : Binary_form → Due) (r : Result Binary_form BinaryFault) → ((b : Binary_form) → OfBytes (due b)) → OfBytes (due_of_read due r)
read_of_bytes due (Ok b) all = all b
read_of_bytes due (Err f) all = class_of_bytes (class_of f.why) f.at

short_of_bytes : (r : Reading) (bytes : List ℕ) → OfBytes (due_of_short r bytes)
short_of_bytes reading.Listing bytes = outcome_of_bytes (outcome_of bytes)
short_of_bytes (reading.Binary features) bytes = read_of_bytes (component_due features) (binary_of bytes) (λ b. tt)
short_of_bytes (reading.ToListing features) bytes = read_of_bytes (listing_due features) (binary_within max_listed_depth bytes) (λ b. tt)

long_of_bytes : (r : Reading) → OfBytes (due_of_long r)
long_of_bytes reading.Listing = tt
long_of_bytes (reading.Binary features) = tt
long_of_bytes (reading.ToListing features) = tt

of_bytes : (r : Reading) (bytes : List ℕ) → OfBytes (due_of_bytes r bytes)
of_bytes r bytes = go (nat_lt max_listing (length bytes))
  where
    go : (b : Bool) → OfBytes (if b then due_of_long r else due_of_short r bytes)
    go true = long_of_bytes r
    go false = short_of_bytes r bytes

-- it is not how the program is used
no_usage : (d : Due) (s : Status) (text : List ℕ) → OfBytes d → IsExpected d s text → s ≡ status.Words → ⊥
no_usage wrong_words s text is h q = is
no_usage too_long s text is h q = omega (arith, ap code_of (sym h.0 ∙ q))
no_usage no_json s text is h q = omega (arith, ap code_of (sym h.0 ∙ q))
no_usage (no_shape at) s text is h q = omega (arith, ap code_of (sym h.0 ∙ q))
no_usage binary_too_long s text is h q = omega (arith, ap code_of (sym h.0 ∙ q))
no_usage too_much_to_keep s text is h q = omega (arith, ap code_of (sym h.0 ∙ q))
no_usage (no_binary at) s text is h q = omega (arith, ap code_of (sym h.0 ∙ q))
no_usage (no_form at) s text is h q = omega (arith, ap code_of (sym h.0 ∙ q))
no_usage (listing features es end) s text is h q = omega (arith, ap code_of (sym h.0 ∙ q))
no_usage (sections features items end) s text is (inl h) q = omega (arith, ap code_of (sym h.status_is ∙ q))
no_usage (sections features items end) s text is (inr h) q = omega (arith, ap code_of (sym h.3 ∙ q))
no_usage (made n) s text is h q = is

-- a status that is due is no fault
expected_answer : (d : Due) (s : Status) (text : List ℕ) → IsExpected d s text → IsAnswer s
expected_answer wrong_words s text h = subst IsAnswer (sym h.0) tt
expected_answer too_long s text h = subst IsAnswer (sym h.0) tt
expected_answer no_json s text h = subst IsAnswer (sym h.0) tt
expected_answer (no_shape at) s text h = subst IsAnswer (sym h.0) tt
expected_answer binary_too_long s text h = subst IsAnswer (sym h.0) tt
expected_answer too_much_to_keep s text h = subst IsAnswer (sym h.0) tt
expected_answer (no_binary at) s text h = subst IsAnswer (sym h.0) tt
expected_answer (no_form at) s text h = subst IsAnswer (sym h.0) tt
expected_answer (listing features es end) s text h = subst IsAnswer (sym h.0) tt
expected_answer (sections features items end) s text (inl h) = subst IsAnswer (sym h.status_is) tt
expected_answer (sections features items end) s text (inr h) = subst IsAnswer (sym h.3) tt
expected_answer (made n) s text (inl h) = subst IsAnswer (sym h.status_is) tt
expected_answer (made n) s text (inr h) = subst IsAnswer (sym h.3) tt

-- out of memory, and nothing was written
pub nothing_ends : (d : Due) (old : Option (List ℕ)) (faults : ℕ) → Ends d status.Memory old old faults faults
nothing_ends d old faults = let due = some_due d in (due.0, due.1, due.2, inr (inr (refl, (0, appends_nothing old), refl)))

-- the whole text went out, or a write failed, or it ran out of memory
module _ (r : Result Unit WriteError) (s : Status) (old new : Option (List ℕ)) (text : List ℕ) (before now : ℕ) (went : Goes r old new text before now) where
  abbrev WentWith : Result Unit WriteError → Type 0
  WentWith r = Goes r old new text before now

  pub done_finishes : r ≡ Ok tt → Finishes s s old new text before now
  done_finishes e = let h : WentWith (Ok tt) = subst WentWith e went in inl (refl, h.0, h.1)

  pub failed_finishes : r ≡ Err write_error.Failed → Finishes status.WriteFault s old new text before now
  failed_finishes e = let h : WentWith (Err write_error.Failed) = subst WentWith e went in inr (inl (refl, h.0, h.1, h.2))

  pub memory_finishes : r ≡ Err write_error.Memory → Finishes status.Memory s old new text before now
  memory_finishes e = let h : WentWith (Err write_error.Memory) = subst WentWith e went in inr (inr (refl, h.0, h.1))

module _ (d : Due) (result : Status) (old new : Option (List ℕ)) (before now : ℕ) (e : Ends d result old new before now) where
  pub answer_due : IsAnswer e.0
  answer_due = expected_answer d e.0 e.1 e.2

  -- the status that is due stands at the end, where that is no fault
  pub status_is : (s : Status) → IsAnswer s → result ≡ s → e.0 ≡ s
  status_is s is q = go e.3
    where
      go : Finishes result e.0 old new e.1 before now → e.0 ≡ s
      go (inl w) = sym w.0 ∙ q
      go (inr (inl w)) = absurd (subst IsAnswer (sym q ∙ w.0) is)
      go (inr (inr w)) = absurd (subst IsAnswer (sym q ∙ w.0) is)

  -- the whole text went out then
  pub appended : IsAnswer result → Appends old new e.1
  appended is = go e.3
    where
      go : Finishes result e.0 old new e.1 before now → Appends old new e.1
      go (inl w) = w.1
      go (inr (inl w)) = absurd (subst IsAnswer w.0 is)
      go (inr (inr w)) = absurd (subst IsAnswer w.0 is)

  -- another status may stand in its place
  pub ends_with : (s : Status) → e.0 ≡ s → (result ≡ s) ⊎ MayStandIn result
  ends_with s is = go e.3
    where
      go : Finishes result e.0 old new e.1 before now → (result ≡ s) ⊎ MayStandIn result
      go (inl w) = inl (w.0 ∙ is)
      go (inr (inl w)) = inr (inl w.0)
      go (inr (inr w)) = inr (inr w.0)

  pub no_read_fault : result ≡ status.ReadFault → ⊥
  no_read_fault q = go e.3
    where
      go : Finishes result e.0 old new e.1 before now → ⊥
      go (inl w) = subst IsAnswer (sym w.0 ∙ q) answer_due
      go (inr (inl w)) = omega (arith, ap code_of (sym w.0 ∙ q))
      go (inr (inr w)) = omega (arith, ap code_of (sym w.0 ∙ q))

  pub faults_rose : result ≡ status.WriteFault → Rose before now
  faults_rose q = go e.3
    where
      go : Finishes result e.0 old new e.1 before now → Rose before now
      go (inl w) = absurd (subst IsAnswer (sym w.0 ∙ q) answer_due)
      go (inr (inl w)) = w.2
      go (inr (inr w)) = absurd (omega (arith, ap code_of (sym w.0 ∙ q)))

  pub write_failed : before < now → result ≡ status.WriteFault
  write_failed q = go e.3
    where
      go : Finishes result e.0 old new e.1 before now → result ≡ status.WriteFault
      go (inl w) = absurd (omega (arith, w.2, q))
      go (inr (inl w)) = w.0
      go (inr (inr w)) = absurd (omega (arith, w.2, q))

  pub never_fewer : before ≤ now
  never_fewer = go e.3
    where
      go : Finishes result e.0 old new e.1 before now → before ≤ now
      go (inl w) = omega (arith, w.2)
      go (inr (inl w)) = w.3
      go (inr (inr w)) = omega (arith, w.2)

-- too many bytes are never all of what is done
long_not_done : (r : Reading) (s : Status) (text : List ℕ) → IsExpected (due_of_long r) s text → s ≡ status.Done → ⊥
long_not_done reading.Listing s text h is = omega (arith, ap code_of (sym h.0 ∙ is))
long_not_done (reading.Binary features) s text h is = omega (arith, ap code_of (sym h.0 ∙ is))
long_not_done (reading.ToListing features) s text h is = omega (arith, ap code_of (sym h.0 ∙ is))

-- what a listing reads as is never that it is too long
short_not_long : (o : Outcome) (s : Status) (text : List ℕ) → IsExpected (due_of_outcome o) s text → s ≡ status.TooLong → ⊥
short_not_long not_json s text h is = omega (arith, ap code_of (sym h.0 ∙ is))
short_not_long (bad_shape at) s text h is = omega (arith, ap code_of (sym h.0 ∙ is))
short_not_long (listed l) s text (inl h) is = omega (arith, ap code_of (sym h.status_is ∙ is))
short_not_long (listed l) s text (inr h) is = omega (arith, ap code_of (sym h.3 ∙ is))

module _ (r : Reading) (bytes : List ℕ) (result : Status) (old new : Option (List ℕ)) (before now : ℕ) (e : Ends (due_of_bytes r bytes) result old new before now) where
  stands : (s : Status) → IsAnswer s → result ≡ s → e.0 ≡ s
  stands = status_is (due_of_bytes r bytes) result old new before now e

  pub no_words : result ≡ status.Words → ⊥
  no_words q = no_usage (due_of_bytes r bytes) e.0 e.1 (of_bytes r bytes) e.2 (stands status.Words tt q)

  pub bytes_long : r ≡ reading.Listing → result ≡ status.TooLong → max_listing < length bytes
  bytes_long is q = go (nat_lt max_listing (length bytes)) refl e.2
    where
      go : (b : Bool) → nat_lt max_listing (length bytes) ≡ b → IsExpected (if b then due_of_long r else due_of_short r bytes) e.0 e.1 → max_listing < length bytes
      go true c h = grind (arith, nat_tests)
      go false c h = absurd (short_not_long (outcome_of bytes) e.0 e.1 (subst (λ (x : Reading). IsExpected (due_of_short x bytes) e.0 e.1) is h) (stands status.TooLong tt q))

  pub bytes_short : result ≡ status.Done → length bytes ≤ max_listing
  bytes_short q = go (nat_lt max_listing (length bytes)) refl e.2
    where
      go : (b : Bool) → nat_lt max_listing (length bytes) ≡ b → IsExpected (if b then due_of_long r else due_of_short r bytes) e.0 e.1 → length bytes ≤ max_listing
      go true c h = absurd (long_not_done r e.0 e.1 h (stands status.Done tt q))
      go false c h = grind (arith, nat_tests)

-- what is due for bytes that are not too many is what they read as
pub ends_short : (r : Reading) (bytes : List ℕ) (result : Status) (old new : Option (List ℕ)) (before now : ℕ) → length bytes ≤ max_listing
    → Ends (due_of_short r bytes) result old new before now → Ends (due_of_bytes r bytes) result old new before now
ends_short r bytes result old new before now short e =
    let not_long : nat_lt max_listing (length bytes) ≡ false = grind (arith, nat_tests) in
    let due : due_of_bytes r bytes ≡ due_of_short r bytes = ap (λ (b : Bool). if b then due_of_long r else due_of_short r bytes) not_long in
    subst (λ (d : Due). Ends d result old new before now) (sym due) e

-- of more bytes only that is due
pub ends_too_long : (r : Reading) (bytes : List ℕ) (result : Status) (old new : Option (List ℕ)) (before now : ℕ) → max_listing < length bytes
    → Ends (due_of_long r) result old new before now → Ends (due_of_bytes r bytes) result old new before now
ends_too_long r bytes result old new before now long e = subst (λ (d : Due). Ends d result old new before now) (sym (long_due r bytes long)) e

-- what is due for the outcome of bytes is due for them
pub ends_as_read : (bytes : List ℕ) (o : Outcome) (result : Status) (old new : Option (List ℕ)) (before now : ℕ) → outcome_of bytes ≡ o
    → Ends (due_of_outcome o) result old new before now → Ends (due_of_short reading.Listing bytes) result old new before now
ends_as_read bytes o result old new before now is e = subst (λ (x : Outcome). Ends (due_of_outcome x) result old new before now) (sym is) e

-- where nothing is read, a status other than these is due for no words
pub words_alone : (number : Option ℕ) (s : Status) (text : List ℕ) → IsExpected (due_of_number number) s text → s ≡ status.Words → (is_some number ≡ false) × (text ≡ usage)
words_alone None s text h q = (refl, h.1)
words_alone (Some n) s text (inl h) q = absurd (omega (arith, ap code_of (sym h.status_is ∙ q)))
words_alone (Some n) s text (inr h) q = absurd (omega (arith, ap code_of (sym h.3 ∙ q)))

pub never_too_long : (number : Option ℕ) (s : Status) (text : List ℕ) → IsExpected (due_of_number number) s text → s ≡ status.TooLong → ⊥
never_too_long None s text h q = omega (arith, ap code_of (sym h.0 ∙ q))
never_too_long (Some n) s text (inl h) q = omega (arith, ap code_of (sym h.status_is ∙ q))
never_too_long (Some n) s text (inr h) q = omega (arith, ap code_of (sym h.3 ∙ q))

-- and words that are no command have that one
pub words_due : (number : Option ℕ) (s : Status) (text : List ℕ) → IsExpected (due_of_number number) s text → is_some number ≡ false → s ≡ status.Words
words_due None s text h none = h.0
words_due (Some n) s text h none = cc
