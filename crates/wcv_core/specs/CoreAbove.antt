-- Declared supertypes.
use Rattle.std.specs.Prelude.{◌≡◌, ℕ, zero, suc, List, [], ◌∷◌, Bool, false, ◌||◌, Option, None, Some, eqb, get_or}
use Rattle.wcv_core.specs.CoreForm.{Group}
use Rattle.wcv_core.specs.CoreGroups.{parents_from}

abbrev pub if_parent : Option ℕ → (ℕ → Bool) → Bool
if_parent None f = false
if_parent (Some p) f = f p

-- whether a is b, or one of the first n types above a, by the parents of all types
abbrev pub climbs : ℕ → List (Option ℕ) → ℕ → ℕ → Bool
climbs zero ps a b = false
climbs (suc n) ps a b = eqb a b || if_parent (get_or ps a None) (λ p. climbs n ps p b)

-- whether a is b or has it as a declared supertype. Each parent stands before its type, so a + 1 steps are enough
unfoldable pub is_declared : List Group → ℕ → ℕ → Bool
is_declared gs a b = climbs (suc a) (parents_from 0 gs) a b

-- ## The types above a type

abbrev pub parent_of : List Group → ℕ → Option ℕ
parent_of gs a = get_or (parents_from 0 gs) a None

-- one leads to another over those in the list, each the declared supertype of the one before
abbrev pub LeadsUp : List Group → ℕ → List ℕ → ℕ → Type 0
LeadsUp gs a [] b = a ≡ b
LeadsUp gs a (p ∷ ps) b = (parent_of gs a ≡ Some p) × LeadsUp gs p ps b

-- these are all types above one, the nearest first: the last declares no supertype
abbrev pub AreAbove : List Group → ℕ → List ℕ → Type 0
AreAbove gs a [] = parent_of gs a ≡ None
AreAbove gs a (p ∷ ps) = (parent_of gs a ≡ Some p) × AreAbove gs p ps
