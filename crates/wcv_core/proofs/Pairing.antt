-- Lists that are matched one pair after the other.
use Rattle.std.proofs.Common.{◌≡◌, ℕ, zero, suc, ◌+◌, ◌<◌, ◌≤◌, List, [], ◌∷◌, drop, take, length, map, get_or, Bool, true, false, ◌&&◌, refl, sym, ◌∙◌, ap, arith, add-one}
use Rattle.std.specs.List.{list_all}
use Rattle.std.proofs.lemmas.List.Folds.{list_all_at, list_all_more}
use Rattle.wcv_core.specs.CoreRules.{each_matches, front_matches}
use Rattle.wcv_core.proofs.Rowing.{length-map, get_or-map}

nothing : {A : Type 0} (xs : List A) (i : ℕ) → length xs ≤ i → drop i xs ≡ []
nothing [] zero h = refl
nothing [] (suc i) h = refl
nothing (x ∷ xs) zero h = Prim.absurd (omega arith)
nothing (x ∷ xs) (suc i) h = nothing xs i (omega arith)

module _ {A B : Type 0} (f g : A → B) (p : B → B → Bool) where
  each_suc : (xs ys : List A) (i : ℕ) (x y : A) → i < length xs → i < length ys
      → each_matches p (drop i (map f xs)) (drop i (map g ys)) ≡ (p (f (get_or xs i x)) (g (get_or ys i y)) && each_matches p (drop (suc i) (map f xs)) (drop (suc i) (map g ys)))
  each_suc [] ys i x y h k = Prim.absurd (omega arith)
  each_suc (z ∷ xs) [] i x y h k = Prim.absurd (omega arith)
  each_suc (z ∷ xs) (w ∷ ys) zero x y h k = refl
  each_suc (z ∷ xs) (w ∷ ys) (suc i) x y h k = each_suc xs ys i x y (omega arith) (omega arith)

  front_suc : (xs ys : List A) (i : ℕ) (x y : A) → i < length xs → i < length ys
      → front_matches p (drop i (map f xs)) (drop i (map g ys)) ≡ (p (f (get_or xs i x)) (g (get_or ys i y)) && front_matches p (drop (suc i) (map f xs)) (drop (suc i) (map g ys)))
  front_suc [] ys i x y h k = Prim.absurd (omega arith)
  front_suc (z ∷ xs) [] i x y h k = Prim.absurd (omega arith)
  front_suc (z ∷ xs) (w ∷ ys) zero x y h k = refl
  front_suc (z ∷ xs) (w ∷ ys) (suc i) x y h k = front_suc xs ys i x y (omega arith) (omega arith)

  -- the i-th pair, of what is left
  module _ (xs ys : List A) (i : ℕ) (x y : A) (h : i < length xs) (k : i < length ys) (v w : B) (a : v ≡ f (get_or xs i x)) (b : w ≡ g (get_or ys i y)) where
    pub each_fails : each_matches p (map f xs) (map g ys) ≡ each_matches p (drop i (map f xs)) (drop i (map g ys)) → p v w ≡ false → false ≡ each_matches p (map f xs) (map g ys)
    each_fails s e =
        sym (s ∙ (each_suc xs ys i x y h k ∙ ap (λ (t : Bool). t && each_matches p (drop (suc i) (map f xs)) (drop (suc i) (map g ys))) ((λ j. p (sym a j) (sym b j)) ∙ e)))

    pub each_goes : each_matches p (map f xs) (map g ys) ≡ each_matches p (drop i (map f xs)) (drop i (map g ys)) → p v w ≡ true → each_matches p (map f xs) (map g ys) ≡ each_matches p (drop (i + 1) (map f xs)) (drop (i + 1) (map g ys))
    each_goes s e =
        s ∙ (each_suc xs ys i x y h k ∙ (ap (λ (t : Bool). t && each_matches p (drop (suc i) (map f xs)) (drop (suc i) (map g ys))) ((λ j. p (sym a j) (sym b j)) ∙ e) ∙
        ap (λ (j : ℕ). each_matches p (drop j (map f xs)) (drop j (map g ys))) (sym (add-one i))))

    pub front_fails : front_matches p (map f xs) (map g ys) ≡ front_matches p (drop i (map f xs)) (drop i (map g ys)) → p v w ≡ false → false ≡ front_matches p (map f xs) (map g ys)
    front_fails s e =
        sym (s ∙ (front_suc xs ys i x y h k ∙ ap (λ (t : Bool). t && front_matches p (drop (suc i) (map f xs)) (drop (suc i) (map g ys))) ((λ j. p (sym a j) (sym b j)) ∙ e)))

    pub front_goes : front_matches p (map f xs) (map g ys) ≡ front_matches p (drop i (map f xs)) (drop i (map g ys)) → p v w ≡ true → front_matches p (map f xs) (map g ys) ≡ front_matches p (drop (i + 1) (map f xs)) (drop (i + 1) (map g ys))
    front_goes s e =
        s ∙ (front_suc xs ys i x y h k ∙ (ap (λ (t : Bool). t && front_matches p (drop (suc i) (map f xs)) (drop (suc i) (map g ys))) ((λ j. p (sym a j) (sym b j)) ∙ e) ∙
        ap (λ (j : ℕ). front_matches p (drop j (map f xs)) (drop j (map g ys))) (sym (add-one i))))

  pub each_end : (xs ys : List A) (i : ℕ) → length xs ≤ i → length ys ≤ i → each_matches p (drop i (map f xs)) (drop i (map g ys)) ≡ true
  each_end xs ys i h k = λ j. each_matches p (nothing (map f xs) i (omega (arith, length-map f xs)) j) (nothing (map g ys) i (omega (arith, length-map g ys)) j)

  pub each_unequal : (xs ys : List A) → (length xs ≡ length ys → ⊥) → each_matches p (map f xs) (map g ys) ≡ false
  each_unequal [] [] h = Prim.absurd (h refl)
  each_unequal [] (y ∷ ys) h = refl
  each_unequal (x ∷ xs) [] h = refl
  each_unequal (x ∷ xs) (y ∷ ys) h = go (p (f x) (g y)) (each_unequal xs ys (λ e. h (ap suc e)))
    where
      go : (b : Bool) → each_matches p (map f xs) (map g ys) ≡ false → (b && each_matches p (map f xs) (map g ys)) ≡ false
      go true e = e
      go false e = refl

  front_nil : (zs : List B) → front_matches p zs [] ≡ true
  front_nil [] = refl
  front_nil (z ∷ zs) = refl

  pub front_end : (xs ys : List A) (i : ℕ) → length ys ≤ i → front_matches p (drop i (map f xs)) (drop i (map g ys)) ≡ true
  front_end xs ys i h = ap (front_matches p (drop i (map f xs))) (nothing (map g ys) i (omega (arith, length-map g ys))) ∙ front_nil (drop i (map f xs))

  pub front_short : (xs ys : List A) → length xs < length ys → front_matches p (map f xs) (map g ys) ≡ false
  front_short xs [] h = Prim.absurd (omega arith)
  front_short [] (y ∷ ys) h = refl
  front_short (x ∷ xs) (y ∷ ys) h = go (p (f x) (g y)) (front_short xs ys (omega arith))
    where
      go : (b : Bool) → front_matches p (map f xs) (map g ys) ≡ false → (b && front_matches p (map f xs) (map g ys)) ≡ false
      go true e = e
      go false e = refl

-- ## One list

module _ {A B : Type 0} (f : A → B) (p : B → Bool) (xs : List A) (i : ℕ) (x : A) (h : i < length xs) where
  pub all_fails : p (f (get_or xs i x)) ≡ false → list_all p (map f xs) ≡ false
  all_fails e = list_all_at p (map f xs) i (f x) (omega (arith, length-map f xs)) (ap p (get_or-map f xs i x) ∙ e)

  pub all_goes : list_all p (take i (map f xs)) ≡ true → p (f (get_or xs i x)) ≡ true → list_all p (take (i + 1) (map f xs)) ≡ true
  all_goes s e = list_all_more p (map f xs) i (f x) (omega (arith, length-map f xs)) ∙ λ j. s j && (ap p (get_or-map f xs i x) ∙ e) j
