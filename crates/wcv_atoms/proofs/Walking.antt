-- Going through lists, and what is left of them.
use Rattle.std.proofs.Common.{◌≡◌, ℕ, suc, ◌+◌, ◌≤◌, List, [], ◌∷◌, length, drop, refl, sym, ◌∙◌, ap, Some, arith, zero, take, ◌++◌, Bool, true, false, ◌&&◌, Option, None, is_some, Bor}
use Rattle.std.specs.List.{list_all}
use Rattle.std.specs.Prelude.{option_copied, slice_get}
use Rattle.wcv_matching.proofs.ByName.{from_entry, some_one}
use Rattle.std.proofs.Math.ListN.{drop_of_length-le}

pub drop_past : {A : Type 0} (xs : List A) (k : ℕ) → length xs ≤ k → drop k xs ≡ []
drop_past xs k h = drop_of_length-le xs h

pub at_drop : {A : Type 0} (xs : List A) (k : ℕ) (x : A) → slice_get xs k ≡ Some x → drop k xs ≡ x ∷ drop (k + 1) xs
at_drop xs k x e = from_entry xs k x (sym e) ∙ ap (λ (n : ℕ). x ∷ drop n xs) (add_one k)
  where
    add_one : (k : ℕ) → suc k ≡ k + 1
    add_one k = omega arith

-- ## What holds of each element

module _ {A : Type 0} (p : A → Bool) (xs : List A) (k : ℕ) where
  each_next : (x : A) → slice_get xs k ≡ Some x → list_all p (drop k xs) ≡ (p x && list_all p (drop (k + 1) xs))
  each_next x e = ap (list_all p) (at_drop xs k x e)

  pub each_holds : (x : A) → slice_get xs k ≡ Some x → list_all p xs ≡ list_all p (drop k xs) → p x ≡ true → list_all p xs ≡ list_all p (drop (k + 1) xs)
  each_holds x e i h = i ∙ each_next x e ∙ ap (λ (b : Bool). b && list_all p (drop (k + 1) xs)) h

  pub one_does_not : (x : A) → slice_get xs k ≡ Some x → list_all p xs ≡ list_all p (drop k xs) → p x ≡ false → false ≡ list_all p xs
  one_does_not x e i h = sym (i ∙ each_next x e ∙ ap (λ (b : Bool). b && list_all p (drop (k + 1) xs)) h)

  pub each_held : length xs ≤ k → list_all p xs ≡ list_all p (drop k xs) → true ≡ list_all p xs
  each_held l i = sym (i ∙ ap (list_all p) (drop_past xs k l))

-- ## What was gone through

take_none : {A : Type 0} (xs : List A) → take 0 xs ≡ []
take_none [] = refl
take_none (x ∷ xs) = refl

pub take_more : {A : Type 0} (xs : List A) (k : ℕ) (x : A) → slice_get xs k ≡ Some x → take (k + 1) xs ≡ take k xs ++ x ∷ []
take_more {A = A} xs k x e = ap (λ (n : ℕ). take n xs) (sym (add_one k)) ∙ go xs k e
  where
    add_one : (k : ℕ) → suc k ≡ k + 1
    add_one k = omega arith

    go : (xs : List A) (k : ℕ) → slice_get xs k ≡ Some x → take (suc k) xs ≡ take k xs ++ x ∷ []
    go [] k e = cc
    go (y ∷ ys) zero e = let is : y ≡ x = some_one y x e in (λ j. is j ∷ take_none ys j)
    go (y ∷ ys) (suc k) e = ap (λ (zs : List A). y ∷ zs) (go ys k e)

-- ## What is found

pub there_told : {X : Type 0} (o : Option (Bor X)) (l : Option X) {b : Bool} → option_copied o ≡ l → is_some o ≡ b → is_some l ≡ b
there_told None l e h = ap is_some (sym e) ∙ h
there_told (Some x) l e h = ap is_some (sym e) ∙ h
