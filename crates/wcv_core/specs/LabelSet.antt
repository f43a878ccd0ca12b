-- What a set of labels holds.
use Rattle.std.specs.Prelude.{ℕ, ◌+◌, ◌*◌, ◌%◌, ◌^◌, List, [], ◌∷◌, map, String, string_bytes, ◌≡◌}
use Rattle.std.specs.Int.{from_le_bytes, w64}
use Rattle.std.specs.List.{fold}
use Rattle.std.specs.declared.alloc.Global.{Global}

-- eight bytes as one number
abbrev pub word : ℕ → ℕ → ℕ → ℕ → ℕ → ℕ → ℕ → ℕ → ℕ
word a b c d e f g h = from_le_bytes w64 (a ∷ b ∷ c ∷ d ∷ e ∷ f ∷ g ∷ h ∷ [])

abbrev pub mix_step : ℕ → ℕ → ℕ
mix_step n w = (n * 11400714819323198485 % 2 ^ 64 + w) % 2 ^ 64

-- the number that bytes give after others, eight at a time
abbrev pub mixed_from : ℕ → List ℕ → ℕ
mixed_from n (a ∷ b ∷ c ∷ d ∷ e ∷ f ∷ g ∷ h ∷ bs) = mixed_from (mix_step n (word a b c d e f g h)) bs
mixed_from n bs = fold mix_step n bs

-- the number that bytes give
abbrev pub mixed : List ℕ → ℕ
mixed bs = mixed_from 0 bs

-- a label behind its number
abbrev pub Numbered : Type 0
Numbered = ℕ × String Global

-- the labels without their numbers
abbrev pub texts : List Numbered → List (List ℕ)
texts ks = map (λ k. string_bytes k.1) ks

-- the number is the one that the bytes give
abbrev pub IsNumbered : Numbered → Type 0
IsNumbered k = k.0 ≡ mixed (string_bytes k.1)

-- each label is behind its own number
abbrev pub AreNumbered : List Numbered → Type 0
AreNumbered [] = Unit {0}
AreNumbered (k ∷ ks) = IsNumbered k × AreNumbered ks
