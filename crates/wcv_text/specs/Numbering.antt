-- Numbers by order of first appearance.
use Rattle.std.specs.Prelude.{ℕ, suc, ◌≡◌, List, [], ◌∷◌}

-- the keys have their positions as numbers, the first of them k
abbrev pub AreNumberedFrom : {K : Type 0} → ℕ → List (K × ℕ) → Type 0
AreNumberedFrom k [] = Unit {0}
AreNumberedFrom k (e ∷ es) = (e.1 ≡ k) × AreNumberedFrom (suc k) es
