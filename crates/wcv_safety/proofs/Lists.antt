-- Lists of which the elements at one place stand in a relation.
use Rattle.std.proofs.Common.{◌≡◌, ℕ, zero, suc, List, [], ◌∷◌, ◌++◌, Bool, true, false, Some, refl, subst}
use Rattle.std.specs.Prelude.{slice_get}
use Rattle.std.specs.List.{AllZip}
use Rattle.wcv_types.proofs.Lists.{some-inj}
use Rattle.wcv_lower.specs.Context.{joined}

module _ {A B : Type 0} (R : A → B → Type 0) where
  -- beside what stands at an index stands something
  pub zip-get : (xs : List A) (ys : List B) (i : ℕ) (y : B) → AllZip R xs ys → slice_get ys i ≡ Some y → (x : A) × (slice_get xs i ≡ Some x) × R x y
  zip-get [] [] i y w e = absurd (cc)
  zip-get [] (z ∷ ys) i y w e = absurd w
  zip-get (x ∷ xs) [] i y w e = absurd w
  zip-get (x ∷ xs) (z ∷ ys) zero y w e = (x, refl, subst (R x) (some-inj e) w.0)
  zip-get (x ∷ xs) (z ∷ ys) (suc i) y w e = zip-get xs ys i y w.1 e

  pub zip-more : (xs : List A) (ys : List B) (x : A) (y : B) → AllZip R xs ys → R x y → AllZip R (xs ++ x ∷ []) (ys ++ y ∷ [])
  zip-more [] [] x y w r = (r, tt)
  zip-more [] (z ∷ ys) x y w r = absurd w
  zip-more (a ∷ xs) [] x y w r = absurd w
  zip-more (a ∷ xs) (z ∷ ys) x y w r = (w.0, zip-more xs ys x y w.1 r)

  -- one more in both, where that is so
  pub zip-joined : (b : Bool) (xs : List A) (ys : List B) (x : A) (y : B) → AllZip R xs ys → (b ≡ true → R x y) → AllZip R (joined b xs x) (joined b ys y)
  zip-joined true xs ys x y w r = zip-more xs ys x y w (r refl)
  zip-joined false xs ys x y w r = w
