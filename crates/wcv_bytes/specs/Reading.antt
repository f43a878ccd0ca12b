-- Numbers, texts and lists of the binary format, from left to right, with the first fault that is met.
-- A reader is a function from the bytes that are left to a value and what is left behind it, or the first fault.
use Rattle.std.specs.Prelude.{◌≡◌, ℕ, zero, suc, ◌+◌, ◌-◌, ◌*◌, ◌/◌, ◌^◌, List, [], ◌∷◌, length, take, drop, Result, Ok, Err, Bool, true, false, nat_lt, ◌==◌, if◌then◌else◌, Option, Some, None}
use Rattle.std.specs.Str.{is_utf8}
use Rattle.wcv_bytes.specs.declared.fault.Fault.{Fault}
use Rattle.wcv_bytes.specs.declared.fault.Why.{Why}
use Rattle.wcv_bytes.specs.declared.fault.Why.TheVariants.{Short, TooLong, TooLarge, NotUtf8, Negative, NotFlag, NotZero}
use Rattle.wcv_bytes.specs.declared.fault.ReadError.{ReadError}
use Rattle.wcv_bytes.specs.declared.fault.ReadError.TheVariants as errors

infixl 10 ◌>>=◌
abbrev pub ◌>>=◌ : {A B : Type 0} → Result A Fault → (A → Result B Fault) → Result B Fault
(Ok x) >>= f = f x
(Err e) >>= f = Err e

-- What a function returned, seen by view, is what reading gives, unless memory ran out.
abbrev pub Fails : {Y : Type 0} → ReadError → Result Y Fault → Type 0
Fails errors.Memory read = Unit {0}
Fails (errors.Fault f) read = read ≡ Err f

abbrev pub Gives : {X Y : Type 0} → (X → Y) → Result X ReadError → Result Y Fault → Type 0
Gives view (Ok x) read = read ≡ Ok (view x)
Gives view (Err e) read = Fails e read

-- a fault, with so many bytes left from it on
abbrev pub fault : Why → List ℕ → Fault
fault why bytes = record { why = why; left = length bytes }

-- what one reading makes
abbrev pub of_one : {A X : Type 0} → (List ℕ → Result (A × List ℕ) Fault) → (A → X) → List ℕ → Result (X × List ℕ) Fault
of_one r make bytes = do
  a ← r bytes
  Ok (make a.0, a.1)

-- what two readings make
abbrev pub of_two : {A B X : Type 0} → (List ℕ → Result (A × List ℕ) Fault) → (List ℕ → Result (B × List ℕ) Fault) → (A → B → X) → List ℕ → Result (X × List ℕ) Fault
of_two r s make bytes = do
  a ← r bytes
  b ← s a.1
  Ok (make a.0 b.0, b.1)

-- ## Numbers

unfoldable pub byte_at : List ℕ → Result (ℕ × List ℕ) Fault
byte_at [] = Err (fault Short [])
byte_at (b ∷ rest) = Ok (b, rest)

-- a byte that has to be this one
unfoldable pub expected_at : ℕ → Why → List ℕ → Result (List ℕ) Fault
expected_at byte why bytes = do
  b ← byte_at bytes
  if b.0 == byte then Ok b.1 else Err (fault why bytes)

-- what a table has under a byte
abbrev pub under_byte : {X : Type 0} → List (ℕ × X) → ℕ → Option X
under_byte [] b = None
under_byte (row ∷ rows) b = if b == row.0 then Some row.1 else under_byte rows b

-- what the byte before the rest says alone, or else what reading gives
abbrev pub or_read : {X : Type 0} → Option X → List ℕ → Result (X × List ℕ) Fault → Result (X × List ℕ) Fault
or_read None rest read = read
or_read (Some x) rest read = Ok (x, rest)

-- a byte that is 0 or 1
unfoldable pub flag_at : List ℕ → Result (Bool × List ℕ) Fault
flag_at [] = Err (fault Short [])
flag_at (zero ∷ rest) = Ok (false, rest)
flag_at (suc zero ∷ rest) = Ok (true, rest)
flag_at (suc (suc b) ∷ rest) = Err (fault NotFlag (suc (suc b) ∷ rest))

-- a byte that is 0
unfoldable pub zero_at : List ℕ → Result (List ℕ) Fault
zero_at [] = Err (fault Short [])
zero_at (zero ∷ rest) = Ok rest
zero_at (suc b ∷ rest) = Err (fault NotZero (suc b ∷ rest))

-- the low seven bits of a byte before a higher part
abbrev pub with_low : ℕ → List ℕ → ℕ → Result (ℕ × List ℕ) Fault → Result (ℕ × List ℕ) Fault
with_low most bytes b high = high >>= λ x. if nat_lt most ((b - 128) + 128 * x.0) then Err (fault TooLarge bytes) else Ok ((b - 128) + 128 * x.0, x.1)

-- A number that is at most another, as LEB128: seven bits a byte, the lowest first, and the eighth bit where more
-- follows. It may be written longer than it needs, up to the bytes that the largest number takes.
unfoldable pub leb_at : ℕ → List ℕ → Result (ℕ × List ℕ) Fault
leb_at most [] = Err (fault Short [])
leb_at most (b ∷ rest) =
    if nat_lt b 128 then (if nat_lt most b then Err (fault TooLarge (b ∷ rest)) else Ok (b, rest))
    else if nat_lt most 128 then Err (fault TooLong (b ∷ rest)) else with_low most (b ∷ rest) b (leb_at (most / 128) rest)

abbrev pub u32_at : List ℕ → Result (ℕ × List ℕ) Fault
u32_at bytes = leb_at (2 ^ 32 - 1) bytes

abbrev pub u64_at : List ℕ → Result (ℕ × List ℕ) Fault
u64_at bytes = leb_at (2 ^ 64 - 1) bytes

-- a number that is at most another, as signed LEB128 of one bit more: the last byte has no sign
unfoldable pub index_within : ℕ → List ℕ → Result (ℕ × List ℕ) Fault
index_within most [] = Err (fault Short [])
index_within most (b ∷ rest) =
    if nat_lt b 128 then (if nat_lt 63 b then Err (fault Negative (b ∷ rest)) else if nat_lt most b then Err (fault TooLarge (b ∷ rest)) else Ok (b, rest))
    else if nat_lt most 128 then Err (fault TooLong (b ∷ rest)) else with_low most (b ∷ rest) b (index_within (most / 128) rest)

-- an index where types that are no index are negative numbers of 33 bits
abbrev pub index_at : List ℕ → Result (ℕ × List ℕ) Fault
index_at bytes = index_within (2 ^ 32 - 1) bytes

-- ## Lists and texts

-- so many of them, one after another
unfoldable pub list_at : {X : Type 0} → (List ℕ → Result (X × List ℕ) Fault) → ℕ → List ℕ → Result (List X × List ℕ) Fault
list_at r zero bytes = Ok ([], bytes)
list_at r (suc n) bytes = do
  first ← r bytes
  others ← list_at r n first.1
  Ok (first.0 ∷ others.0, others.1)

-- a count, and so many of them
unfoldable pub vec_at : {X : Type 0} → (List ℕ → Result (X × List ℕ) Fault) → List ℕ → Result (List X × List ℕ) Fault
vec_at r bytes = do
  n ← u32_at bytes
  list_at r n.0 n.1

-- bytes that are a text
unfoldable pub utf8_in : List ℕ → ℕ → Result (List ℕ) Fault
utf8_in bytes left = if is_utf8 bytes then Ok bytes else Err (record { why = NotUtf8; left = left })

-- a text behind its length
unfoldable pub text_at : List ℕ → Result (List ℕ × List ℕ) Fault
text_at bytes = do
  n ← u32_at bytes
  if nat_lt (length n.1) n.0 then Err (fault Short []) else (utf8_in (take n.0 n.1) (length n.1) >>= λ text. Ok (text, drop n.0 n.1))
