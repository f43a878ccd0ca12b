-- Where something stands in a list, by a test of equality.
use Rattle.std.specs.Prelude.{ℕ, suc, List, [], ◌∷◌, Bool, false, ◌||◌, cond}

-- where it stands first; the length of a list where it stands nowhere
abbrev pub position_of : {X : Type 0} → (X → X → Bool) → X → List X → ℕ
position_of eq x [] = 0
position_of eq x (y ∷ ys) = cond (eq x y) 0 (suc (position_of eq x ys))

-- whether it stands in the list
abbrev pub is_there : {X : Type 0} → (X → X → Bool) → X → List X → Bool
is_there eq x [] = false
is_there eq x (y ∷ ys) = eq x y || is_there eq x ys
