-- What was found under a name, against what is expected.
use Rattle.std.specs.Prelude.{ℕ, List, ◌<◌, ◌≡◌, Option, Some, slice_get}

-- something was found, and it stands in the relation to y
abbrev pub FoundAs : {X Y : Type 0} → (X → Y → Type 0) → Option X → Y → Type 0
FoundAs {X} R o y = (x : X) × (o ≡ Some x) × R x y

-- P holds of each of the first n elements
abbrev pub EachBefore : {A : Type 0} → (A → Type 0) → List A → ℕ → Type 0
EachBefore {A} P ys n = (i : ℕ) (e : A) → i < n → slice_get ys i ≡ Some e → P e
