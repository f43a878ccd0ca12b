-- The entries of a section, each at its offset.
use Rattle.std.specs.Prelude.{ℕ, ◌-◌, List, ◌++◌, length, Result, Ok}
use Rattle.wcv_bytes.specs.declared.fault.Fault.{Fault}
use Rattle.wcv_bytes.specs.Reading.{◌>>=◌}

-- an entry by a reader that knows its offset, where the section ends at another
abbrev pub entry_over : {X : Type 0} → (ℕ → List ℕ → Result (X × List ℕ) Fault) → ℕ → List ℕ → Result (X × List ℕ) Fault
entry_over reader end bytes = reader (end - length bytes) bytes

-- what stood before, and what is still read
abbrev pub behind : {X : Type 0} → List X → Result (List X × List ℕ) Fault → Result (List X × List ℕ) Fault
behind front read = read >>= λ x. Ok (front ++ x.0, x.1)
