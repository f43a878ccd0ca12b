-- The first value that is not used, and whether there is one.
use Rattle.std.proofs.Common.{◌≡◌, ℕ, suc, [], ◌∷◌, map, refl, Bool, true, false, cond, Some}
use Rattle.std.specs.List.{list_all}
use Rattle.std.specs.Prelude.{◌&&◌, not, is_some}
use Rattle.wcv_spaces.specs.Values.{Values, first_unused}

pub unused_is : (n : ℕ) (vs : Values) → not (list_all (λ b. b) (map (λ v. v.1) vs)) ≡ is_some (first_unused n vs)
unused_is n [] = refl
unused_is n (v ∷ vs) = go v.1 (unused_is (suc n) vs)
  where
    rest : Bool
    rest = list_all (λ b. b) (map (λ v. v.1) vs)

    go : (b : Bool) → not rest ≡ is_some (first_unused (suc n) vs) → not (b && rest) ≡ is_some (cond b (first_unused (suc n) vs) (Some n))
    go true e = e
    go false e = refl
