-- What it is that bytes are read again.
use Rattle.std.specs.Prelude.{◌≡◌, ℕ, List, ◌++◌, Result, Ok, Some}
use Rattle.wcv_bytes.specs.declared.fault.Fault.{Fault}
use Rattle.wcv_encode.specs.Bytes.{Bytes}

-- of what was made, whatever follows, the reader gives x and what follows
abbrev pub Reads : {X : Type 0} → (List ℕ → Result (X × List ℕ) Fault) → Bytes → X → Type 0
Reads r made x = (b rest : List ℕ) → made ≡ Some b → r (b ++ rest) ≡ Ok (x, rest)

-- so of all that a writer writes
abbrev pub IsReadAgain : {X : Type 0} → (List ℕ → Result (X × List ℕ) Fault) → (X → Bytes) → Type 0
IsReadAgain {X = X} r w = (x : X) → Reads r (w x) x
