-- Sections: a byte that says what it holds, a size, and so many bytes. What stops reading here is told by its offset.
use Rattle.std.specs.Prelude.{◌≡◌, ℕ, ◌+◌, ◌-◌, ◌*◌, List, length, take, drop, Result, Ok, Err, Bool, nat_lt, if◌then◌else◌}
use Rattle.wcv_bytes.specs.declared.fault.BinaryFault.{BinaryFault}
use Rattle.wcv_bytes.specs.declared.fault.Fault.{Fault}
use Rattle.wcv_bytes.specs.declared.fault.ReadError.{ReadError}
use Rattle.wcv_bytes.specs.declared.fault.ReadError.TheVariants as read_errors
use Rattle.wcv_bytes.specs.declared.fault.BinaryError.{BinaryError}
use Rattle.wcv_bytes.specs.declared.fault.BinaryError.TheVariants as errors
use Rattle.wcv_bytes.specs.declared.fault.Why.{Why}
use Rattle.wcv_bytes.specs.declared.fault.Why.TheVariants.{Short, TooMuch}
use Rattle.wcv_bytes.specs.Reading.{u32_at}

infixl 10 ◌>>=◌
abbrev pub ◌>>=◌ : {A B : Type 0} → Result A BinaryFault → (A → Result B BinaryFault) → Result B BinaryFault
(Ok x) >>= f = f x
(Err e) >>= f = Err e

-- What a function returned, seen by view, is what reading gives, unless memory ran out.
abbrev pub FailsAt : {Y : Type 0} → BinaryError → Result Y BinaryFault → Type 0
FailsAt errors.OutOfMemory read = Unit {0}
FailsAt (errors.Fault f) read = read ≡ Err f

abbrev pub GivesAt : {X Y : Type 0} → (X → Y) → Result X BinaryError → Result Y BinaryFault → Type 0
GivesAt view (Ok x) read = read ≡ Ok (view x)
GivesAt view (Err e) read = FailsAt e read

-- a fault at an offset
abbrev pub fault_at : Why → ℕ → BinaryFault
fault_at why at = record { at = at; why = why }

-- what a reading of bytes gives that end at an offset
abbrev pub told : {X : Type 0} → ℕ → Result X Fault → Result X BinaryFault
told end (Ok x) = Ok x
told end (Err f) = Err (fault_at f.why (end - f.left))

-- so of the error of a reader
abbrev pub error_told : ℕ → ReadError → BinaryError
error_told end read_errors.Memory = errors.OutOfMemory
error_told end (read_errors.Fault f) = errors.Fault (fault_at f.why (end - f.left))

-- ## Bytes to keep

-- the most bytes of a binary that are kept: all but the contents of its custom sections and of those sections of core
-- modules that hold no types, imports or exports. Entries of sections count for more than their bytes
abbrev pub max_kept : ℕ
max_kept = 8388608

-- how many bytes may still be kept once so many were counted, which is told at an offset where it is too many
abbrev pub room_behind : ℕ → ℕ → ℕ → Result ℕ BinaryFault
room_behind at room counted = if nat_lt room counted then Err (fault_at TooMuch at) else Ok (room - counted)

-- for how many bytes more than their own so many entries count, three each, of which there are no more than the bytes that
-- are left, and these once more where that is asked for
abbrev pub more_for : Bool → ℕ → ℕ → ℕ
more_for again count left = 3 * (if nat_lt left count then left else count) + (if again then left else 0)

-- ## Sections

-- The contents of a section, what is behind them, and how many bytes may still be kept there, in bytes that end at an
-- offset: from the size of the section on. Its first byte and its size are counted, and its contents but where they are
-- skipped or counted by themselves.
unfoldable pub contents_at : Bool → ℕ → ℕ → List ℕ → Result (List ℕ × List ℕ × ℕ) BinaryFault
contents_at counts end room bytes = do
  n ← told end (u32_at bytes)
  if nat_lt (length n.1) n.0 then Err (fault_at Short end)
      else (room_behind (end - length n.1) room (1 + (length bytes - length (if counts then drop n.0 n.1 else n.1))) >>= λ left. Ok (take n.0 n.1, drop n.0 n.1, left))

-- How many bytes may still be kept behind the contents of a section, which end at an offset and were counted: its entries
-- count for more, and its bytes once more where that is asked for.
unfoldable pub counted_at : Bool → ℕ → ℕ → List ℕ → Result ℕ BinaryFault
counted_at again end room bytes = do
  n ← told end (u32_at bytes)
  room_behind (end - length n.1) room (more_for again n.0 (length n.1))
