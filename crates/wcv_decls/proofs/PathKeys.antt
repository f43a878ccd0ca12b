-- The resources of a list of paths, one after another.
use Rattle.std.proofs.Common.{◌≡◌, ℕ, zero, suc, ◌+◌, ◌≤◌, List, [], ◌∷◌, length, refl, ap, subst, take, Some, arith}
use Rattle.std.specs.Prelude.{slice_get}
use Rattle.std.specs.List.{IsDistinct}
use Rattle.std.specs.Map.{keys_of}
use Rattle.wcv_types.specs.Sets.{same_resource, with_resource}
use Rattle.wcv_types.specs.Tree.{firsts}
use Rattle.wcv_types.specs.declared.ids.ResourceId.{ResourceId}
use Rattle.wcv_types.proofs.Copying.{set_next}

abbrev Led_paths : Type 0
Led_paths = List (ResourceId × List ℕ)

firsts_keys : (ps : Led_paths) → keys_of ps ≡ firsts ps
firsts_keys [] = refl
firsts_keys (p ∷ ps) = ap (λ (rs : List ResourceId). p.0 ∷ rs) (firsts_keys ps)

first_at : (ps : Led_paths) (k : ℕ) (r : ResourceId) (v : List ℕ) → slice_get ps k ≡ Some (r, v) → slice_get (firsts ps) k ≡ Some r
first_at [] k r v h = absurd (cc)
first_at (p ∷ ps) zero r v h = let i : p ≡ (r, v) = cc in ap (λ (x : ResourceId × List ℕ). Some x.0) i
first_at (p ∷ ps) (suc k) r v h = first_at ps k r v h

-- one more of them
pub first_next : (ps : Led_paths) (k : ℕ) (r : ResourceId) (v : List ℕ) (rs new : List ResourceId) → IsDistinct same_resource (keys_of ps) → slice_get ps k ≡ Some (r, v) → rs ≡ take k (firsts ps) → new ≡ with_resource rs r → new ≡ take (k + 1) (firsts ps)
first_next ps k r v rs new d h c n =
    let there : slice_get (firsts ps) k ≡ Some r = first_at ps k r v h in
    set_next (firsts ps) k r rs new (subst (IsDistinct same_resource) (firsts_keys ps) d) there c n

-- all of them
pub first_all : (ps : Led_paths) (n : ℕ) → length ps ≤ n → take n (firsts ps) ≡ firsts ps
first_all [] zero h = refl
first_all [] (suc n) h = refl
first_all (p ∷ ps) zero h = absurd (omega (arith, h))
first_all (p ∷ ps) (suc n) h = ap (λ (rs : List ResourceId). p.0 ∷ rs) (first_all ps n (omega (arith, h)))
