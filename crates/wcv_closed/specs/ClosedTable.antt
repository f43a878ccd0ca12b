-- What interning keeps of a table of core types, and spaces over two tables.
use Rattle.std.specs.Prelude.{◌≡◌, List, [], ◌∷◌}
use Rattle.wcv_core.specs.CoreForm.{Group}
use Rattle.wcv_core.specs.CoreGroups.{AreClosed}
use Rattle.wcv_core.specs.CoreTable.{AreDistinct}
use Rattle.wcv_core.specs.CoreWritten.{Core_entry, sub_entry, module_entry}
use Rattle.wcv_closed.specs.ClosedType.{closed}

-- each group is in closed form, and none stands twice
pub record IsTable (gs : List Group) : Type 0 where
  pub closed : AreClosed 0 gs
  pub distinct : AreDistinct gs

-- entries of two spaces of core types, by ids of two tables: at each index a module type in both, or types with one closed form
abbrev pub SameEntries : List Group → List Group → List Core_entry → List Core_entry → Type 0
SameEntries gs hs [] [] = Unit {0}
SameEntries gs hs (sub_entry i ∷ es) (sub_entry j ∷ fs) = (closed gs i ≡ closed hs j) × SameEntries gs hs es fs
SameEntries gs hs (module_entry ∷ es) (module_entry ∷ fs) = SameEntries gs hs es fs
SameEntries gs hs _ _ = ⊥
