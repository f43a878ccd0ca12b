-- Why something is refused. A check is a kind of refusal with whether it is a cause, over numbers and Booleans alone.
use Rattle.std.specs.Prelude.{ℕ, List, [], ◌∷◌, ◌++◌, Bool, true, false, not, nat_lt, Option, Some, None, ◌≡◌, ◌⊎◌}
use Rattle.wcv_core.specs.Features.{has_feature}
use Rattle.wcv_core.specs.Refusal.{error_kind, error_offset}
use Rattle.wcv_core.specs.declared.error.Error.{Error}
use Rattle.wcv_core.specs.declared.error.ErrorKind.{ErrorKind}
use Rattle.wcv_core.specs.declared.error.ErrorKind.TheVariants as kind
use Rattle.wcv_core.specs.declared.features.WasmFeatures.{WasmFeatures}

abbrev pub Checks : Type 0
Checks = List (ErrorKind × Bool)

-- the kind is one of the causes
abbrev pub Cause : Checks → ErrorKind → Type 0
Cause [] k = ⊥
Cause (c ∷ cs) k = ((k ≡ c.0) × (c.1 ≡ true)) ⊎ Cause cs k

-- there is no cause
abbrev pub IsFree : Checks → Type 0
IsFree [] = Unit {0}
IsFree (c ∷ cs) = (c.1 ≡ false) × IsFree cs

-- the checks of all elements
abbrev pub all_checks : {A : Type 0} → (A → Checks) → List A → Checks
all_checks f [] = []
all_checks f (x ∷ xs) = f x ++ all_checks f xs

-- the error is one of the causes, at that offset
abbrev pub CausedBy : {M : Type 0} → Checks → ℕ → Error M → Type 0
CausedBy cs offset e = Cause cs (error_kind e) × (error_offset e ≡ offset)

-- the error is out of memory, or one of the causes at that offset
abbrev pub MemoryOrCausedBy : {M : Type 0} → Checks → ℕ → Error M → Type 0
MemoryOrCausedBy cs offset e = (error_kind e ≡ kind.OutOfMemory) ⊎ CausedBy cs offset e

-- there are more than the limit
abbrev pub too_many : ℕ → ℕ → Checks
too_many limit n = (kind.Limit, nat_lt limit n) ∷ []

-- nothing stands at the index
abbrev pub is_none : {X : Type 0} → Option X → Bool
is_none None = true
is_none (Some x) = false

abbrev pub missing : {X : Type 0} → Option X → Checks
missing o = (kind.OutOfBounds, is_none o) ∷ []

-- the feature with this bit is missing
abbrev pub lacks : WasmFeatures → ℕ → Checks
lacks fs bit = (kind.Feature, not (has_feature fs bit)) ∷ []
