-- What a run answers, and what it has then read and written.
use Rattle.std.specs.Prelude.{ℕ, ◌≡◌, ◌≤◌, ◌⊎◌, List, Option, IfSome, ⊤}
use Rattle.std.specs.Io.KnownBytes.{Appends}
use Rattle.wcv_main.specs.declared.status.Status.{Status}
use Rattle.wcv_main.specs.declared.status.Status.TheVariants as status
use Rattle.wcv_main.specs.Pump.{AppendsPrefix}
use Rattle.wcv_main.specs.Faults.{Rose}
use Rattle.wcv_main.specs.Due.{Due, due_over, IsExpected}

-- a status that tells of no fault
abbrev pub IsAnswer : Status → Type 0
IsAnswer status.Done = ⊤
IsAnswer status.Refused = ⊤
IsAnswer status.Words = ⊤
IsAnswer status.Listing = ⊤
IsAnswer status.TooLong = ⊤
IsAnswer status.ReadFault = ⊥
IsAnswer status.WriteFault = ⊥
IsAnswer status.Memory = ⊥

-- a status that may stand in place of any other
abbrev pub MayStandIn : Status → Type 0
MayStandIn s = (s ≡ status.WriteFault) ⊎ (s ≡ status.Memory)

-- the sink took the text that is due
abbrev pub Answers : List (List ℕ) → Option (List ℕ) → Status → Option (List ℕ) → Option (List ℕ) → Type 0
Answers words left s old new = IsAnswer s → IfSome (due_over words left) (λ due. (text : List ℕ) × IsExpected due s text × Appends old new text)

-- the sink took a prefix of the text that is due
abbrev pub Cuts : List (List ℕ) → Option (List ℕ) → Status → Option (List ℕ) → Option (List ℕ) → Type 0
Cuts words left s old new = MayStandIn s
    → IfSome (due_over words left) (λ due. (s : Status) × (text : List ℕ) × IsExpected due s text × AppendsPrefix old new text)

-- the whole text was written, or a prefix of it before a fault or out of memory
abbrev pub Finishes : Status → Status → Option (List ℕ) → Option (List ℕ) → List ℕ → ℕ → ℕ → Type 0
Finishes result s old new text before now =
    (result ≡ s) × Appends old new text × (now ≡ before) ⊎ (result ≡ status.WriteFault) × AppendsPrefix old new text × Rose before now × (before ≤ now)
    ⊎ (result ≡ status.Memory) × AppendsPrefix old new text × (now ≡ before)

-- so with a text that is due with a listing
abbrev pub Ends : Due → Status → Option (List ℕ) → Option (List ℕ) → ℕ → ℕ → Type 0
Ends due result old new before now = (s : Status) × (text : List ℕ) × IsExpected due s text × Finishes result s old new text before now
