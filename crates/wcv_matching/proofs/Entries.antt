-- A loop over a list finds what holds of each element, or one of which it does not hold.
use Rattle.std.proofs.Common.{◌≡◌, ℕ, zero, suc, ◌+◌, ◌<◌, ◌≤◌, ◌⊎◌, inl, inr, List, [], ◌∷◌, length, Some, None, sym, ◌∙◌, ap, arith, subst, slice_index_or}
use Rattle.std.specs.Prelude.{slice_get, Contains, All}
use Rattle.std.proofs.lemmas.List.Elements.{All-contains}
use Rattle.wcv_matching.specs.Standings.{EachBefore}

-- ## Elements at their places

one_some : {A : Type 0} (x y : A) → Some x ≡ Some y → x ≡ y
one_some x y e = cc

pub there : {A : Type 0} (xs : List A) (i : ℕ) (x : A) → i < length xs → slice_index_or xs i x ≡ x → slice_get xs i ≡ Some x
there [] i x l e = Prim.absurd (omega arith)
there (y ∷ xs) zero x l e = ap Some e
there (y ∷ xs) (suc i) x l e = there xs i x (omega arith) e

record IsAt {A : Type 0} (xs : List A) (i : ℕ) (x : A) : Type 0 where
  below : i < length xs
  is : slice_index_or xs i x ≡ x

at_place : {A : Type 0} (xs : List A) (i : ℕ) (x : A) → slice_get xs i ≡ Some x → IsAt xs i x
at_place [] i x e = cc
at_place (y ∷ xs) zero x e = record { below = omega arith; is = one_some y x e }
at_place (y ∷ xs) (suc i) x e = let r = at_place xs i x e in let l : i < length xs = r.below in record { below = omega arith; is = r.is }

pub among : {A : Type 0} (xs : List A) (i : ℕ) (x : A) → slice_get xs i ≡ Some x → Contains xs x
among xs i x e = let r = at_place xs i x e in (i, r.below, r.is)

-- ## Entries

module _ {A : Type 0} (P : A → Type 0) (ys : List A) where
  pub one_more : (n : ℕ) (e : A) → EachBefore P ys n → Some e ≡ slice_get ys n → P e → EachBefore P ys (n + 1)
  one_more n e f h g i d l k = go (cases i n l)
    where
      cases : (i n : ℕ) → i < n + 1 → (i < n) ⊎ (i ≡ n)
      cases i n l = grind arith

      go : (i < n) ⊎ (i ≡ n) → P d
      go (inl m) = f i d m k
      go (inr m) = subst P (one_some e d (h ∙ (ap (slice_get ys) (sym m) ∙ k))) g

  pub all_found : (n : ℕ) → length ys ≤ n → EachBefore P ys n → (e : A) → Contains ys e → P e
  all_found n l f e c = f c.0 e (let m : c.0 < length ys = c.1 in omega arith) (there ys c.0 e c.1 c.2)

  pub one_fails : (n : ℕ) (e : A) → Some e ≡ slice_get ys n → (P e → ⊥) → ((e : A) → Contains ys e → P e) → ⊥
  one_fails n e h g f = g (f e (among ys n e (sym h)))

pub not_past : {A G : Type 0} (ys : List A) (n : ℕ) → n < length ys → None ≡ slice_get ys n → G
not_past [] n l e = Prim.absurd (omega arith)
not_past (z ∷ zs) zero l e = cc
not_past (z ∷ zs) (suc n) l e = not_past zs n (omega arith) e

pub entry_within : {K X : Type 0} (P : X → Type 0) (xs : List (K × X)) (i : ℕ) (e : K × X) → All (λ (e : K × X). P e.1) xs → Some e ≡ slice_get xs i → P e.1
entry_within {K} {X} P xs i e a h = All-contains (λ (e : K × X). P e.1) xs e a (among xs i e (sym h))
