-- Entries of one list by the keys of another. Of a key that a list has twice its first entry counts.
use Rattle.std.specs.Prelude.{◌≡◌, List, Bool, Some, Contains}
use Rattle.std.specs.Map.{lookup}

-- xs has an entry of that key, and it stands in the relation to y
abbrev pub Found : {K X Y : Type 0} → (K → K → Bool) → (X → Y → Type 0) → List (K × X) → K → Y → Type 0
Found {X} same R xs k y = (x : X) × (lookup (same k) xs ≡ Some x) × R x y

-- for each entry of ys, xs has one of its key that stands in the relation to it
abbrev pub EachFound : {K X Y : Type 0} → (K → K → Bool) → (X → Y → Type 0) → List (K × X) → List (K × Y) → Type 0
EachFound {K} {Y} same R xs ys = (k : K) (y : Y) → Contains ys (k, y) → Found same R xs k y
