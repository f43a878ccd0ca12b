-- Numbers, texts and lists as bytes. What has no bytes is None.
use Rattle.std.specs.Prelude.{◌≡◌, ℕ, zero, suc, ◌+◌, ◌/◌, ◌%◌, ◌^◌, List, [], ◌∷◌, ◌++◌, length, Result, Ok, Err, Bool, nat_lt, if◌then◌else◌, Option, Some, None}
use Rattle.std.specs.Str.{is_utf8}
use Rattle.wcv_encode.specs.declared.fault.Unwritten.{Unwritten}
use Rattle.wcv_encode.specs.declared.fault.Unwritten.TheVariants as fault

abbrev pub Bytes : Type 0
Bytes = Option (List ℕ)

-- the one behind the other, where both have bytes
infixr 20 ◌⧺◌
unfoldable pub ◌⧺◌ : Bytes → Bytes → Bytes
(Some a) ⧺ (Some b) = Some (a ++ b)
(Some a) ⧺ None = None
None ⧺ b = None

-- What a function returned and left in its list is what was made, unless memory ran out.
abbrev pub Wrote : {A : Type 0} → Result A Unwritten → Bytes → List ℕ → Type 0
Wrote (Ok x) made now = made ≡ Some now
Wrote (Err fault.NoBytes) made now = made ≡ None
Wrote (Err fault.Memory) made now = Unit {0}

abbrev pub byte : ℕ → Bytes
byte b = Some (b ∷ [])

abbrev pub flag : Bool → Bytes
flag b = byte (if b then 1 else 0)

-- ## Numbers

-- The shortest LEB128 of a number, in no more bytes than one and so many: seven bits a byte, the lowest first, and
-- the eighth bit where more follows. The last byte is below a bound.
unfoldable pub leb128 : ℕ → ℕ → ℕ → List ℕ
leb128 bound zero n = n ∷ []
leb128 bound (suc more) n = if nat_lt n bound then n ∷ [] else (128 + n % 128) ∷ leb128 bound more (n / 128)

unfoldable pub u32_bytes : ℕ → Bytes
u32_bytes n = if nat_lt n (2 ^ 32) then Some (leb128 128 4 n) else None

unfoldable pub u64_bytes : ℕ → Bytes
u64_bytes n = if nat_lt n (2 ^ 64) then Some (leb128 128 9 n) else None

-- a u32 as a signed number: the bit of 64 in the last byte is the sign
unfoldable pub s33_bytes : ℕ → Bytes
s33_bytes n = if nat_lt n (2 ^ 32) then Some (leb128 64 4 n) else None

-- ## Texts and lists

-- so many bytes, behind their number
unfoldable pub sized : Bytes → Bytes
sized (Some b) = u32_bytes (length b) ⧺ Some b
sized None = None

-- a text in UTF-8
unfoldable pub text : List ℕ → Bytes
text t = if is_utf8 t then sized (Some t) else None

-- all of a list
unfoldable pub each : {A : Type 0} → (A → Bytes) → List A → Bytes
each w [] = Some []
each w (x ∷ xs) = w x ⧺ each w xs

-- all of a list, behind their number
unfoldable pub vec : {A : Type 0} → (A → Bytes) → List A → Bytes
vec w xs = u32_bytes (length xs) ⧺ each w xs

-- what may be there, behind a byte that says whether it is
unfoldable pub maybe : {A : Type 0} → (A → Bytes) → Option A → Bytes
maybe w None = byte 0
maybe w (Some x) = byte 1 ⧺ w x

-- what may be there, where something else says whether it is
unfoldable pub if_some : {A : Type 0} → (A → Bytes) → Option A → Bytes
if_some w None = Some []
if_some w (Some x) = w x

-- a section: its id, and its contents behind their size
unfoldable pub section : ℕ → Bytes → Bytes
section id contents = byte id ⧺ sized contents
