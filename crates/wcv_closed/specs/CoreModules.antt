-- Matching of core modules, and the arguments of a core instance. E is the type of items, and C says of two whether the first matches the second.
use Rattle.std.specs.Prelude.{List, bytes_eq, Contains, All}
use Rattle.std.specs.List.{IsDistinct}
use Rattle.std.specs.Map.{keys_of}
-- of the names of a module and of an item in it
pub use Rattle.wcv_core.specs.TextSet.{same_pair}
use Rattle.wcv_types.specs.Tree.{Text}
use Rattle.wcv_closed.specs.Found.{Found, EachFound}

-- what a module imports and exports
pub record Module_items (E : Type 0) : Type 0 where
  pub imports : List ((Text × Text) × E)
  pub exports : List (Text × E)

-- each import of a is one of b, which matches it, and each export of b is one of a, which matches that
pub record ModuleMatches {E : Type 0} (C : E → E → Type 0) (a b : Module_items E) : Type 0 where
  pub imports : EachFound same_pair C b.imports a.imports
  pub exports : EachFound bytes_eq C a.exports b.exports

-- ## Arguments

-- what is exported under the name matches the item
abbrev pub Exports : {E : Type 0} → (E → E → Type 0) → Text → List (Text × E) → E → Type 0
Exports C n exports item = Found bytes_eq C exports n item

-- there is an argument of the module's name, and it exports the item
abbrev pub IsServed : {E : Type 0} → (E → E → Type 0) → List (Text × List (Text × E)) → Text × Text → E → Type 0
IsServed C args i item = Found bytes_eq (Exports C i.1) args i.0 item

-- the arguments serve each import of a module
abbrev pub AllServed : {E : Type 0} → (E → E → Type 0) → List (Text × List (Text × E)) → List ((Text × Text) × E) → Type 0
AllServed {E} C args imports = (i : Text × Text) (item : E) → Contains imports (i, item) → IsServed C args i item

-- ## What the laws ask of modules

-- P holds of each item
pub record EachItem {E : Type 0} (P : E → Type 0) (m : Module_items E) : Type 0 where
  pub imports : All (λ i. P i.1) m.imports
  pub exports : All (λ e. P e.1) m.exports

-- no pair of names is imported twice, and no name exported twice
pub record NamesDiffer {E : Type 0} (m : Module_items E) : Type 0 where
  pub imports : IsDistinct same_pair (keys_of m.imports)
  pub exports : IsDistinct bytes_eq (keys_of m.exports)

-- P holds of each item that an argument exports
abbrev pub EachArgument : {E : Type 0} → (E → Type 0) → List (Text × List (Text × E)) → Type 0
EachArgument {E} P args = All (λ (a : Text × List (Text × E)). All (λ (e : Text × E). P e.1) a.1) args
