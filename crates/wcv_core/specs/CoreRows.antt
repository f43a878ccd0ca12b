-- Where each type stands.
use Rattle.std.specs.Prelude.{◌≡◌, ℕ, suc, ◌+◌, ◌≤◌, List, [], ◌∷◌, ◌++◌, length, map, get_or}
use Rattle.wcv_core.specs.declared.core_rows.Row.{Row}
use Rattle.wcv_core.specs.CoreForm.{SubForm, Group}
use Rattle.wcv_core.specs.CoreGroups.{parent_in, AreClosed, depths_of}

-- a type of the group with this number, whose first id is n
abbrev pub place_in : ℕ → ℕ → SubForm → Row
place_in number n s = record { group = number; first = n; parent = parent_in n s }

abbrev pub places_from : ℕ → ℕ → List Group → List Row
places_from number n [] = []
places_from number n (g ∷ gs) = map (place_in number n) g ++ places_from (suc number) (n + length g) gs

-- no type stands deeper than at its id
abbrev pub AreLow : List ℕ → Type 0
AreLow ds = (k : ℕ) → get_or ds k 0 ≤ k

-- what the fields of the rows keep
pub record AreRows (gs : List Group) (places : List Row) (depths : List ℕ) : Type 0 where
  pub places_are : places ≡ places_from 0 0 gs
  pub depths_are : depths ≡ depths_of gs
  pub low : AreLow depths
  pub closed : AreClosed 0 gs
