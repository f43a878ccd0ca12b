-- When a type over tokens fits a type whose free resources are read as tokens.
use Rattle.std.specs.Prelude.{ℕ, List, cond}
use Rattle.wcv_core.specs.CoreForm.{Group}
use Rattle.wcv_core.specs.Names.{Name, member}
use Rattle.wcv_types.specs.Resources.{owns}
use Rattle.wcv_types.specs.Tree.{Text, Head, imported_at}
use Rattle.wcv_types.specs.Unfold.{Type_tree}
use Rattle.wcv_matching.specs.Matching.{Item_rule, Reading, Entries, MatchBelow}
use Rattle.wcv_matching.specs.ModuleItems.{ItemsMatch}

-- a matches b at some height, where the free resources of a are read by f and those of b by g
abbrev pub MatchesAs : Item_rule → {A : Type 0} → Reading A → Reading A → Type_tree → Type_tree → Type 0
MatchesAs C {A} f g a b = (d : ℕ) × MatchBelow C d A f g a b

-- a matches b, where the free resources of b are read by g. The reading need not be injective, and nothing is replaced
abbrev pub Fits : List Group → (Name → Name) → Type_tree → Type_tree → Type 0
Fits gs g a b = MatchesAs (ItemsMatch gs) {A = Name} (λ r. r) g a b

-- for each entry of ys the first of its name in xs fits it
abbrev pub FitsEach : List Group → (Name → Name) → List (Text × Type_tree) → List (Text × Type_tree) → Type 0
FitsEach gs g xs ys = Entries (Fits gs g) xs ys

-- of the resources of a node, those that it imports are read by s and those that it defines by u; all others by f
abbrev pub in_all : Head Name Name → (Name → Name) → (Name → Name) → (Name → Name) → Name → Name
in_all h s u f r = cond (owns h r) (cond (member r (imported_at h)) (s r) (u r)) (f r)
