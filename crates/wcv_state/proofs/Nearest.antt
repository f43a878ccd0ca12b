-- Lists that are read from their end: the element so far from it, and another in its place.
use Rattle.std.proofs.Common.{◌≡◌, ℕ, zero, suc, ◌<◌, ◌-◌, List, [], ◌∷◌, ◌++◌, length, map, refl, sym, ◌∙◌, ap, arith, get_or, slice_set, Some}
use Rattle.std.specs.Prelude.{reverse, slice_get}
use Rattle.std.proofs.lemmas.List.{length-reverse, map-append, reverse-append, reverse-reverse, get_or-reverse}
use Rattle.std.proofs.lemmas.Option.{slice_get-get_or}
use Rattle.wcv_lower.specs.Step.{change_at}

module _ {A : Type 0} where
  pub reverse-cons : (x : A) (xs : List A) → reverse (x ∷ xs) ≡ reverse xs ++ x ∷ []
  reverse-cons x xs = reverse-append (x ∷ []) xs

  -- the last, behind others
  pub reverse-last : (xs : List A) (x : A) → reverse (xs ++ x ∷ []) ≡ x ∷ reverse xs
  reverse-last xs x = reverse-append xs (x ∷ [])

  set_end : (xs : List A) (k : ℕ) (x y : A) → k ≡ length xs → slice_set (xs ++ x ∷ []) k y ≡ xs ++ y ∷ []
  set_end [] zero x y e = refl
  set_end [] (suc k) x y e = absurd (omega (arith, e))
  set_end (z ∷ xs) zero x y e = absurd (omega (arith, e))
  set_end (z ∷ xs) (suc k) x y e = ap (λ (ws : List A). z ∷ ws) (set_end xs k x y (omega (arith, e)))

  set_front : (xs : List A) (k : ℕ) (x y : A) → k < length xs → slice_set (xs ++ x ∷ []) k y ≡ slice_set xs k y ++ x ∷ []
  set_front [] k x y h = absurd (omega (arith, h))
  set_front (z ∷ xs) zero x y h = refl
  set_front (z ∷ xs) (suc k) x y h = ap (λ (ws : List A). z ∷ ws) (set_front xs k x y (omega (arith, h)))

  set_back : (r : List A) (n : ℕ) (y : A) → n < length r → slice_set (reverse r) (length r - 1 - n) y ≡ reverse (change_at n (λ z. y) r)
  set_back [] n y h = absurd (omega (arith, h))
  set_back (x ∷ r) zero y h =
      let k : length (x ∷ r) - 1 - 0 ≡ length (reverse r) = omega (arith, length-reverse r) in
      (λ j. slice_set (reverse-cons x r j) (k j) y) ∙ set_end (reverse r) (length (reverse r)) x y refl ∙ sym (reverse-cons y r)
  set_back (x ∷ r) (suc n) y h =
      let k : length (x ∷ r) - 1 - suc n ≡ length r - 1 - n = omega arith in
      let w : length r - 1 - n < length (reverse r) = omega (arith, length-reverse r, h) in
      (λ j. slice_set (reverse-cons x r j) (k j) y) ∙ set_front (reverse r) (length r - 1 - n) x y w ∙ ap (λ (ws : List A). ws ++ x ∷ []) (set_back r n y (omega (arith, h))) ∙
      sym (reverse-cons x (change_at n (λ z. y) r))

  -- what stands so far from the end
  pub get_nearest : (xs : List A) (n : ℕ) (d : A) → n < length xs → slice_get (reverse xs) n ≡ Some (get_or xs (length xs - 1 - n) d)
  get_nearest xs n d h = slice_get-get_or (reverse xs) n d (omega (arith, length-reverse xs, h)) ∙ ap Some (get_or-reverse xs n d h)

  -- another in its place
  pub set_nearest : (xs : List A) (n : ℕ) (y : A) → n < length xs → reverse (slice_set xs (length xs - 1 - n) y) ≡ change_at n (λ z. y) (reverse xs)
  set_nearest xs n y h =
      let w : n < length (reverse xs) = omega (arith, length-reverse xs, h) in
      (λ j. reverse (slice_set (sym (reverse-reverse xs) j) (sym (length-reverse xs) j - 1 - n) y)) ∙ ap reverse (set_back (reverse xs) n y w) ∙ reverse-reverse (change_at n (λ z. y) (reverse xs))

  -- which a change of what stands there gives
  pub changed_known : (f : A → A) (xs : List A) (n : ℕ) (x y : A) → slice_get xs n ≡ Some x → y ≡ f x → change_at n (λ z. y) xs ≡ change_at n f xs
  changed_known f [] n x y e h = refl
  changed_known f (z ∷ xs) zero x y e h =
      let k : z ≡ x = cc in
      (λ j. h j ∷ xs) ∙ ap (λ (w : A). f w ∷ xs) (sym k)
  changed_known f (z ∷ xs) (suc n) x y e h = ap (λ (ws : List A). z ∷ ws) (changed_known f xs n x y e h)

module _ {A B : Type 0} where
  pub map-reverse : (f : A → B) (xs : List A) → map f (reverse xs) ≡ reverse (map f xs)
  map-reverse f [] = refl
  map-reverse f (x ∷ xs) = ap (map f) (reverse-cons x xs) ∙ map-append f (reverse xs) (x ∷ []) ∙ ap (λ (ys : List B). ys ++ f x ∷ []) (map-reverse f xs) ∙ sym (reverse-cons (f x) (map f xs))

  pub map-change : (f : A → B) (g : A → A) (h : B → B) → ((x : A) → f (g x) ≡ h (f x)) → (xs : List A) (n : ℕ) → map f (change_at n g xs) ≡ change_at n h (map f xs)
  map-change f g h w [] n = refl
  map-change f g h w (x ∷ xs) zero = ap (λ (y : B). y ∷ map f xs) (w x)
  map-change f g h w (x ∷ xs) (suc n) = ap (λ (ys : List B). f x ∷ ys) (map-change f g h w xs n)

  -- a change that f does not see
  pub map-same : (f : A → B) (g : A → A) → ((x : A) → f (g x) ≡ f x) → (xs : List A) (n : ℕ) → map f (change_at n g xs) ≡ map f xs
  map-same f g w [] n = refl
  map-same f g w (x ∷ xs) zero = ap (λ (y : B). y ∷ map f xs) (w x)
  map-same f g w (x ∷ xs) (suc n) = ap (λ (ys : List B). f x ∷ ys) (map-same f g w xs n)
