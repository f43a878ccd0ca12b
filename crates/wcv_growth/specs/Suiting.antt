-- Arguments of a start function that match its parameters.
use Rattle.std.specs.Prelude.{List, Option, Some, ◌≡◌}
use Rattle.std.specs.List.{AllZip}
use Rattle.wcv_core.specs.CoreForm.{Group}
use Rattle.wcv_matching.specs.TableMatching.{TypeMatches}
use Rattle.wcv_lower.specs.Trees.{Type_tree}

-- the value is there, and its type matches that of the parameter
abbrev pub Suits : List Group → Option Type_tree → Type_tree → Type 0
Suits gs o p = (v : Type_tree) × (o ≡ Some v) × TypeMatches gs v p

-- so of as many values as there are parameters, one by one
abbrev pub AllSuit : List Group → List (Option Type_tree) → List Type_tree → Type 0
AllSuit gs os ps = AllZip (Suits gs) os ps
