-- Lists of which each element is looked up, one after the other.
use Rattle.std.proofs.Common.{◌≡◌, ℕ, List, [], ◌∷◌, ◌++◌, sym, ◌∙◌, subst}
use Rattle.std.specs.List.{AllZip}
use Rattle.std.proofs.lemmas.List.{append-nil, append_assoc}
use Rattle.wcv_core.specs.Checks.{Checks, Cause, IsFree, MemoryOrCausedBy, all_checks}
use Rattle.wcv_core.specs.Refusal.{error_kind}
use Rattle.wcv_core.specs.declared.error.Error.{Error}
use Rattle.wcv_core.specs.declared.error.ErrorKind.{ErrorKind}
use Rattle.wcv_core.proofs.Causes.{cause_left, cause_right, free_both, free_left, free_right}
use Rattle.wcv_spaces.proofs.Calls.{caused_more}

module _ {A : Type 0} (checks : A → Checks) where
  -- a cause of one is a cause of all
  cause_among : (xs ys : List A) (x : A) (k : ErrorKind) → Cause (checks x) k → Cause (all_checks checks (xs ++ x ∷ ys)) k
  cause_among [] ys x k c = cause_left (checks x) (all_checks checks ys) k c
  cause_among (z ∷ xs) ys x k c = cause_right (checks z) (all_checks checks (xs ++ x ∷ ys)) k (cause_among xs ys x k c)

  free_push : (xs : List A) (x : A) → IsFree (all_checks checks xs) → IsFree (checks x) → IsFree (all_checks checks (xs ++ x ∷ []))
  free_push [] x f g = free_both (checks x) [] g tt
  free_push (z ∷ xs) x f g =
      free_both (checks z) (all_checks checks (xs ++ x ∷ [])) (free_left (checks z) (all_checks checks xs) f) (free_push xs x (free_right (checks z) (all_checks checks xs) f) g)

zip_push : {A B : Type 0} (Is : A → B → Type 0) (xs : List A) (ys : List B) (x : A) (y : B) → AllZip Is xs ys → Is x y → AllZip Is (xs ++ x ∷ []) (ys ++ y ∷ [])
zip_push Is [] [] x y w i = (i, tt)
zip_push Is [] (b ∷ ys) x y w i = absurd w
zip_push Is (a ∷ xs) [] x y w i = absurd w
zip_push Is (a ∷ xs) (b ∷ ys) x y w i = (w.0, zip_push Is xs ys x y w.1 i)

-- those before were found, and have no cause
pub record Looked {A B : Type 0} (Is : A → B → Type 0) (checks : A → Checks) (all left : List A) (found : List B) : Type 0 where
  pub before : List A
  pub was : all ≡ before ++ left
  pub each : AllZip Is before found
  pub free : IsFree (all_checks checks before)

module _ {A B : Type 0} (Is : A → B → Type 0) (checks : A → Checks) (all : List A) where
  pub looked_none : (left : List A) → all ≡ left → Looked Is checks all left []
  looked_none left e = record { before = []; was = e; each = tt; free = tt }

  pub looked_next : (left : List A) (found : List B) (x : A) (y : B) → Looked Is checks all (x ∷ left) found → Is x y → IsFree (checks x) → Looked Is checks all left (found ++ y ∷ [])
  looked_next left found x y w i f = record {
    before = w.before ++ x ∷ [];
    was = w.was ∙ sym (append_assoc w.before (x ∷ []) left);
    each = zip_push Is w.before found x y w.each i;
    free = free_push checks w.before x w.free f;
  }

  pub looked_caused : {M : Type 0} (left : List A) (found : List B) (x : A) (offset : ℕ) (e : Error M) → Looked Is checks all (x ∷ left) found → MemoryOrCausedBy (checks x) offset e → MemoryOrCausedBy (all_checks checks all) offset e
  looked_caused left found x offset e w t =
      subst (λ (xs : List A). MemoryOrCausedBy (all_checks checks xs) offset e) (sym w.was)
      (caused_more (checks x) (all_checks checks (w.before ++ x ∷ left)) offset e (cause_among checks w.before left x (error_kind e)) t)

  pub looked_all : (found : List B) → Looked Is checks all [] found → AllZip Is all found × IsFree (all_checks checks all)
  looked_all found w =
      let e : all ≡ w.before = w.was ∙ append-nil w.before in
      (subst (λ (xs : List A). AllZip Is xs found) (sym e) w.each, subst (λ (xs : List A). IsFree (all_checks checks xs)) (sym e) w.free)
