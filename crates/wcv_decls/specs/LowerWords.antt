-- Words in lower case, joined by single dashes.
use Rattle.std.specs.Prelude.{ℕ, List, [], ◌∷◌, Bool, ◌&&◌, ◌||◌, ◌==◌, not, cond}
use Rattle.wcv_core.specs.Label.{is_lower_or_digit}

-- the byte may stand behind that one
abbrev pub may_follow : ℕ → ℕ → Bool
may_follow before b = is_lower_or_digit b || (b == 45 && not (before == 45))

-- one where it may not
abbrev pub slip_of : ℕ → ℕ → ℕ
slip_of before b = cond (may_follow before b) 0 1

-- each byte may stand behind the one before it, and the last is no dash
abbrev pub goes_on : ℕ → List ℕ → Bool
goes_on before [] = not (before == 45)
goes_on before (b ∷ bs) = may_follow before b && goes_on b bs
