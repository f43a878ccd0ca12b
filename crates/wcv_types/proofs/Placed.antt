-- Places, and sets by places, where something holds of each.
use Rattle.std.proofs.Common.{◌≡◌, ℕ, List, [], ◌∷◌, ◌++◌, refl, sym, subst, Bool, true, false, ◌||◌, cond, eqb, Some}
use Rattle.std.specs.Prelude.{All, is_some}
use Rattle.std.specs.Map.{lookup}
use Rattle.std.proofs.lemmas.Bool.{false≢true, eqb-true}
use Rattle.std.proofs.lemmas.List.Elements.{All-head, All-tail, All-push}
use Rattle.std.proofs.lemmas.Option.{same_Some}
use Rattle.wcv_types.specs.Sets.{has_place, with_place, with_set}

module _ (P : ℕ → Type 0) where
  pub place_found : (ks : List ℕ) (k : ℕ) → All P ks → has_place ks k ≡ true → P k
  place_found [] k h e = absurd (false≢true e)
  place_found (q ∷ ks) k h e = go (eqb k q) refl e (λ f. place_found ks k (All-tail P q ks h) f)
    where
      go : (b : Bool) → eqb k q ≡ b → (b || has_place ks k) ≡ true → (has_place ks k ≡ true → P k) → P k
      go true i w f = subst P (sym (eqb-true k q i)) (All-head P q ks h)
      go false i w f = f w

  pub place_put : (ks : List ℕ) (k : ℕ) → All P ks → P k → All P (with_place ks k)
  place_put ks k h g = go (has_place ks k)
    where
      go : (b : Bool) → All P (cond b ks (ks ++ k ∷ []))
      go true = h
      go false = All-push P ks k h g

module _ {X : Type 0} (P : ℕ × X → Type 0) where
  pub placed_found : (ks : List (ℕ × X)) (k : ℕ) (x : X) → All P ks → lookup (eqb k) ks ≡ Some x → P (k, x)
  placed_found [] k x h e = cc
  placed_found (q ∷ ks) k x h e = go (eqb k q.0) refl e (λ f. placed_found ks k x (All-tail P q ks h) f)
    where
      go : (b : Bool) → eqb k q.0 ≡ b → cond b (Some q.1) (lookup (eqb k) ks) ≡ Some x → (lookup (eqb k) ks ≡ Some x → P (k, x)) → P (k, x)
      go true i w f = subst P (λ j. (sym (eqb-true k q.0 i) j, same_Some _ _ w j)) (All-head P q ks h)
      go false i w f = f w

  pub placed_put : (ks : List (ℕ × X)) (k : ℕ) (x : X) → All P ks → P (k, x) → All P (with_set ks k x)
  placed_put ks k x h g = go (is_some (lookup (eqb k) ks))
    where
      go : (b : Bool) → All P (cond b ks (ks ++ (k, x) ∷ []))
      go true = h
      go false = All-push P ks (k, x) h g
