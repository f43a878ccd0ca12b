-- Where the dashes of a text stand.
use Rattle.std.specs.Prelude.{ℕ, ◌≡◌, ◌≢◌, ◌<◌, List, length, slice_index}

-- no dash stands among the first n bytes
abbrev pub IsPlain : List ℕ → ℕ → Type 0
IsPlain bs n = (k : ℕ) → k < n → slice_index bs k ≢ 45

-- the first dash stands at i
pub record IsFirstDash (bs : List ℕ) (i : ℕ) : Type 0 where
  pub within : i < length bs
  pub dash : slice_index bs i ≡ 45
  pub before : IsPlain bs i
