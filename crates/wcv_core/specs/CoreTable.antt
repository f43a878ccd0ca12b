-- The table of core types: groups, each once.
use Rattle.wcv_core.specs.Limits.{max_entries}
use Rattle.std.specs.Prelude.{◌≡◌, ℕ, ◌+◌, List, [], ◌∷◌, ◌++◌, length, Bool, Option, None, Some, Vec, nat_lt, false}
use Rattle.std.specs.BTreeMap.{BTreeMap}
use Rattle.std.specs.Ordering.{nat_cmp}
use Rattle.std.specs.declared.cmp.Ordering.{Ordering}
use Rattle.std.specs.Cmp.Lexicographic.{slice_cmp}
use Rattle.std.specs.BTreeMap.{get}
use Rattle.std.specs.declared.alloc.Global.{Global}
use Rattle.wcv_core.specs.Checks.{Checks}
use Rattle.wcv_core.specs.declared.error.ErrorKind.TheVariants as kind
use Rattle.wcv_core.specs.CoreForm.{Group}
use Rattle.wcv_core.specs.CoreGroups.{id_from, id_of, total}

-- the groups with one more, unless it is there
abbrev pub joined_to : Option ℕ → List Group → Group → List Group
joined_to None gs g = gs ++ g ∷ []
joined_to (Some i) gs g = gs

abbrev pub with_group : List Group → Group → List Group
with_group gs g = joined_to (id_of gs g) gs g

-- the groups would have too many types
abbrev pub passes : Option ℕ → List Group → Group → Bool
passes None gs g = nat_lt max_entries (total gs + length g)
passes (Some i) gs g = false

abbrev pub passes_limit : List Group → Group → Bool
passes_limit gs g = passes (id_of gs g) gs g

-- why a group cannot join: there would be too many types
abbrev pub limit_checks : List Group → Group → Checks
limit_checks gs g = (kind.Limit, passes_limit gs g) ∷ []

-- no group stands twice
abbrev pub AreDistinct : List Group → Type 0
AreDistinct [] = Unit {0}
AreDistinct (g ∷ gs) = (id_of gs g ≡ None) × AreDistinct gs

abbrev pub code_order : Vec ℕ Global → Vec ℕ Global → Ordering
code_order x y = slice_cmp nat_cmp x.items y.items

-- the map has for the code of each group the id of its first type, and no more
pub record AreCoded (gs : List Group) (codes : BTreeMap (Vec ℕ Global) ℕ) : Type 0 where
  pub coded : (k : Vec ℕ Global) → get code_order codes k ≡ id_from 0 gs k.items
  pub distinct : AreDistinct gs
