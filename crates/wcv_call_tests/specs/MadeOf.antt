-- Types in which others stand more than once.
use Rattle.std.specs.Prelude.{ℕ, List, length, Contains, ◌≡◌}
use Rattle.wcv_types.specs.Arena.{Arena}
use Rattle.wcv_types.specs.Replacing.{Replacement, SparesOwn}
use Rattle.wcv_types.specs.Standing.{Stands}
use Rattle.wcv_types.specs.Unfold.{parts_at, tree_at}
use Rattle.wcv_types.specs.declared.ids.Part.{Part}

-- the type is made of n types, itself among them, each counted once, and none of them owns a resource
pub record IsMadeOf (a : Arena) (n : ℕ) (q : Part) : Type 0 where
  pub types : List Part
  pub count : length types ≡ n
  pub itself : Contains types q
  pub stand : (r : Part) → Contains types r → Stands a r
  pub closed : (r s : Part) → Contains types r → Contains (parts_at a r) s → Contains types s
  pub spares : (m : Replacement) → SparesOwn m (tree_at a q)
