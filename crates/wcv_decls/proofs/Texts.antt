-- Texts of a list, one after another.
use Rattle.std.proofs.Common.{◌≡◌, ◌<◌, ℕ, zero, suc, ◌+◌, List, [], ◌∷◌, ◌++◌, map, length, take, drop, slice_index_or, Some, sym, ap, arith, subst, inl, inr}
use Rattle.std.specs.Prelude.{slice_get}
use Rattle.wcv_core.specs.Refusal.{error_kind}
use Rattle.wcv_core.specs.declared.error.Error.{Error}
use Rattle.wcv_core.specs.declared.error.ErrorKind.{ErrorKind}
use Rattle.wcv_types.specs.Tree.{Text}
use Rattle.wcv_lower.specs.Checks.{Cause, IsFree, too_long, each_too_long}
use Rattle.wcv_lower.proofs.Causes.{cause_left}
use Rattle.wcv_spaces.specs.Promises.{MemoryOrCausedBy}
use Rattle.wcv_spaces.proofs.Calls.{caused_more}
use Rattle.wcv_decls.proofs.Positions.{take-at, split-at}

-- the name of an element
pub named_at : {A : Type 0} (f : A → Text) (xs : List A) (k : ℕ) (x : A) → k < length xs → x ≡ slice_index_or xs k x → slice_get (map f xs) k ≡ Some (f x)
named_at f [] k x h e = absurd (omega (arith, h))
named_at f (y ∷ xs) zero x h e = ap (λ z. Some (f z)) (sym e)
named_at f (y ∷ xs) (suc k) x h e = named_at f xs k x (omega (arith, h)) e

one_more : (ts : List Text) (t : Text) → IsFree (each_too_long ts) → IsFree (too_long t) → IsFree (each_too_long (ts ++ t ∷ []))
one_more [] t f g = (g.0, tt)
one_more (u ∷ ts) t f g = (f.0, one_more ts t f.1 g)

one_fails : (ts us : List Text) (t : Text) (k : ErrorKind) → Cause (too_long t) k → Cause (each_too_long (ts ++ t ∷ us)) k
one_fails [] us t k c = cause_left (too_long t) (each_too_long us) k c
one_fails (u ∷ ts) us t k c = inr (one_fails ts us t k c)

module _ (ts : List Text) (i : ℕ) (t : Text) (at : slice_get ts i ≡ Some t) where
  pub texts_push : IsFree (each_too_long (take i ts)) → IsFree (too_long t) → IsFree (each_too_long (take (i + 1) ts))
  texts_push f g = subst (λ (xs : List Text). IsFree (each_too_long xs)) (sym (take-at ts i t at)) (one_more (take i ts) t f g)

  -- a text that is too long
  pub texts_caused : {M : Type 0} (offset : ℕ) (e : Error M) → MemoryOrCausedBy (too_long t) offset e → MemoryOrCausedBy (each_too_long ts) offset e
  texts_caused offset e c =
      caused_more (too_long t) (each_too_long ts) offset e
      (λ d. subst (λ (xs : List Text). Cause (each_too_long xs) (error_kind e)) (split-at ts i t at) (one_fails (take i ts) (drop (suc i) ts) t (error_kind e) d)) c

-- ## Texts of one list and of another

pub texts_both : (xs ys : List Text) → IsFree (each_too_long xs) → IsFree (each_too_long ys) → IsFree (each_too_long (xs ++ ys))
texts_both [] ys f g = g
texts_both (x ∷ xs) ys f g = (f.0, texts_both xs ys f.1 g)

first_texts : (xs ys : List Text) (k : ErrorKind) → Cause (each_too_long xs) k → Cause (each_too_long (xs ++ ys)) k
first_texts [] ys k c = absurd c
first_texts (x ∷ xs) ys k (inl c) = inl c
first_texts (x ∷ xs) ys k (inr c) = inr (first_texts xs ys k c)

later_texts : (xs ys : List Text) (k : ErrorKind) → Cause (each_too_long ys) k → Cause (each_too_long (xs ++ ys)) k
later_texts [] ys k c = c
later_texts (x ∷ xs) ys k c = inr (later_texts xs ys k c)

pub caused_first : {M : Type 0} (xs ys : List Text) (offset : ℕ) (e : Error M) → MemoryOrCausedBy (each_too_long xs) offset e → MemoryOrCausedBy (each_too_long (xs ++ ys)) offset e
caused_first xs ys offset e t = caused_more (each_too_long xs) (each_too_long (xs ++ ys)) offset e (first_texts xs ys (error_kind e)) t

pub caused_later : {M : Type 0} (xs ys : List Text) (offset : ℕ) (e : Error M) → MemoryOrCausedBy (each_too_long ys) offset e → MemoryOrCausedBy (each_too_long (xs ++ ys)) offset e
caused_later xs ys offset e t = caused_more (each_too_long ys) (each_too_long (xs ++ ys)) offset e (later_texts xs ys (error_kind e)) t
