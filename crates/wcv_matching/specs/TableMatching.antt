-- Matching of types whose core types are of one table.
use Rattle.std.specs.Prelude.{List, true, ◌≡◌, Contains}
use Rattle.wcv_core.specs.CoreForm.{Group}
use Rattle.wcv_core.specs.CoreGroups.{total}
use Rattle.wcv_core.specs.CoreSizes.{IsEntityWithin}
use Rattle.wcv_core.specs.Names.{Name}
use Rattle.wcv_types.specs.Tree.{Text}
use Rattle.wcv_types.specs.Unfold.{Type_tree}
use Rattle.wcv_closed.specs.CoreModules.{EachItem, ModuleMatches}
use Rattle.wcv_matching.specs.ItemTests.{item_matches}
use Rattle.wcv_matching.specs.Matching.{Item_rule, Matches, OpensImports}
use Rattle.wcv_matching.specs.ModuleItems.{ItemsMatch}
use Rattle.wcv_matching.specs.Orderly.{EachModule}
use Rattle.wcv_matching.specs.SameTypes.{IsSame, MatchesOnce}

abbrev pub TypeMatches : List Group → Type_tree → Type_tree → Type 0
TypeMatches gs a b = Matches (ItemsMatch gs) a b

abbrev pub Opens : List Group → (Name → Name) → List (Text × Type_tree) → Type_tree → Type 0
Opens gs s args c = OpensImports (ItemsMatch gs) s args c

-- each matches the other, said in one direction
abbrev pub SameTypes : List Group → Type_tree → Type_tree → Type 0
SameTypes gs a b = IsSame (ItemsMatch gs) a b

-- matching that asks at a type entry whether the types are the same
abbrev pub MatchesByOnce : List Group → Type_tree → Type_tree → Type 0
MatchesByOnce gs a b = MatchesOnce (ItemsMatch gs) a b

-- each core module inside the tree matches itself: no name stands twice in it, and its items are closed
abbrev pub ModulesMatchThemselves : List Group → Type_tree → Type 0
ModulesMatchThemselves gs t = EachModule (λ m. ModuleMatches (ItemsMatch gs) m m) t

-- the core types of what core modules inside the tree import and export are of the table
abbrev pub CoreWithin : List Group → Type_tree → Type 0
CoreWithin gs t = EachModule (EachItem (IsEntityWithin (total gs))) t

abbrev pub EachCoreWithin : List Group → List (Text × Type_tree) → Type 0
EachCoreWithin gs es = (n : Text) (x : Type_tree) → Contains es (n, x) → CoreWithin gs x

-- items are told by the ids of their core types
abbrev pub ByIds : List Group → Item_rule
ByIds gs x y = item_matches gs x y ≡ true
