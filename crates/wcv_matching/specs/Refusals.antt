-- How a comparison refuses.
use Rattle.std.specs.Prelude.{ℕ, ◌≡◌, ◌⊎◌}
use Rattle.wcv_core.specs.Refusal.{error_kind, error_offset}
use Rattle.wcv_core.specs.declared.error.Error.{Error}
use Rattle.wcv_core.specs.declared.error.ErrorKind.TheVariants as kind

-- it is a mismatch at the offset, and P does not hold
pub record IsMismatch {M : Type 0} (offset : ℕ) (P : Type 0) (e : Error M) : Type 0 where
  pub is : error_kind e ≡ kind.Mismatch
  pub at : error_offset e ≡ offset
  pub fails : P → ⊥

-- or it is out of memory
abbrev pub MemoryOrMismatch : {M : Type 0} → ℕ → Type 0 → Error M → Type 0
MemoryOrMismatch offset P e = (error_kind e ≡ kind.OutOfMemory) ⊎ IsMismatch offset P e

-- a mismatch at the offset, or out of memory, whatever it is a refusal of
abbrev pub IsRefusal : {M : Type 0} → ℕ → Error M → Type 0
IsRefusal offset e = (error_kind e ≡ kind.OutOfMemory) ⊎ ((error_kind e ≡ kind.Mismatch) × (error_offset e ≡ offset))
