-- Values that are used one after another: the causes are those of all at once.
use Rattle.std.proofs.Common.{◌≡◌, ℕ, zero, suc, List, [], ◌∷◌, ◌++◌, length, slice_set, refl, sym, ◌∙◌, ap, subst, append_assoc, Bool, true, false, ◌||◌, Some, inl, inr, ⊎_elim}
use Rattle.std.specs.Prelude.{slice_get}
use Rattle.std.proofs.Math.Bool.{or-true}
use Rattle.std.proofs.lemmas.List.{length-map}
use Rattle.wcv_core.specs.Checks.{all_checks}
use Rattle.wcv_core.specs.declared.error.ErrorKind.{ErrorKind}
use Rattle.wcv_core.specs.declared.error.ErrorKind.TheVariants as error
use Rattle.wcv_types.specs.declared.shapes.ComponentValType.{ComponentValType}
use Rattle.wcv_types.proofs.Lists.{some-inj}
use Rattle.wcv_lower.specs.Checks.{Checks, Cause, IsFree, is_none, missing}
use Rattle.wcv_lower.specs.Step.{change_at}
use Rattle.wcv_lower.proofs.Causes.{cause_left, cause_right, cause_either, free_both, free_left, free_right}
use Rattle.wcv_spaces.specs.Contents.{Contents, used_at, with_uses}
use Rattle.wcv_spaces.specs.Values.{Values, is_used_in, is_used_again_in, use_id_checks, uses_id_checks}
use Rattle.wcv_spaces.proofs.UsedValues.{as_used, same_values}

-- ## One use

pub set_used : (vs : Values) (k : ℕ) (v : ComponentValType × Bool) → slice_get vs k ≡ Some v → slice_set vs k (as_used v) ≡ change_at k as_used vs
set_used [] k v e = absurd (cc)
set_used (w ∷ vs) zero v e = ap (λ (u : ComponentValType × Bool). as_used u ∷ vs) (sym (some-inj e))
set_used (w ∷ vs) (suc k) v e = ap (λ (us : Values). w ∷ us) (set_used vs k v e)

-- ## One list of uses behind another

pub used_at-append : (ks ls : List ℕ) (vs : Values) → used_at (ks ++ ls) vs ≡ used_at ls (used_at ks vs)
used_at-append [] ls vs = refl
used_at-append (k ∷ ks) ls vs = used_at-append ks ls (change_at k as_used vs)

pub uses_both : (ks ls : List ℕ) (s : Contents) → with_uses ls (with_uses ks s) ≡ with_uses (ks ++ ls) s
uses_both ks ls s = ap (λ (vs : Values). record s { spaces = record s.spaces { values = vs } }) (sym (used_at-append ks ls s.spaces.values))

-- as many stand
pub uses_length : (ks : List ℕ) (vs : Values) → length (used_at ks vs) ≡ length vs
uses_length ks vs = sym (length-map (used_at ks vs) (λ v. v.0)) ∙ ap length (same_values (λ v. v.0) (λ v. refl) ks vs) ∙ length-map vs (λ v. v.0)

-- ## Marks after uses

one_none : (k l : ℕ) (vs : Values) → is_none (slice_get (change_at k as_used vs) l) ≡ is_none (slice_get vs l)
one_none k l [] = refl
one_none zero zero (v ∷ vs) = refl
one_none zero (suc l) (v ∷ vs) = refl
one_none (suc k) zero (v ∷ vs) = refl
one_none (suc k) (suc l) (v ∷ vs) = one_none k l vs

-- what stands at an index stands there still
pub uses_none : (ks : List ℕ) (l : ℕ) (vs : Values) → is_none (slice_get (used_at ks vs) l) ≡ is_none (slice_get vs l)
uses_none [] l vs = refl
uses_none (k ∷ ks) l vs = uses_none ks l (change_at k as_used vs) ∙ one_none k l vs

-- ## Causes

-- of two lists, those of the first, and those of the second after it
again-append : (ks ls : List ℕ) (vs : Values) → is_used_again_in (ks ++ ls) vs ≡ (is_used_again_in ks vs || is_used_again_in ls (used_at ks vs))
again-append [] ls vs = refl
again-append (k ∷ ks) ls vs = ap (λ (b : Bool). is_used_in vs k || b) (again-append ks ls (change_at k as_used vs)) ∙ assoc (is_used_in vs k) (is_used_again_in ks (change_at k as_used vs)) (is_used_again_in ls (used_at ks (change_at k as_used vs)))
  where
    assoc : (a b c : Bool) → (a || (b || c)) ≡ ((a || b) || c)
    assoc true b c = refl
    assoc false b c = refl

there_same : (ks ls : List ℕ) (vs : Values) → all_checks (λ k. missing (slice_get (used_at ks vs) k)) ls ≡ all_checks (λ k. missing (slice_get vs k)) ls
there_same ks ls vs = ap (λ (f : ℕ → Bool). all_checks (λ k. (error.OutOfBounds, f k) ∷ []) ls) (λ j k. uses_none ks k vs j)

checks-append : {A : Type 0} (f : A → Checks) (xs ys : List A) → all_checks f (xs ++ ys) ≡ all_checks f xs ++ all_checks f ys
checks-append f [] ys = refl
checks-append f (x ∷ xs) ys = ap (λ (cs : Checks). f x ++ cs) (checks-append f xs ys) ∙ sym (append_assoc (f x) (all_checks f xs) (all_checks f ys))

abbrev absent : Values → List ℕ → Checks
absent vs ks = all_checks (λ k. missing (slice_get vs k)) ks

module _ (ks ls : List ℕ) (vs : Values) where
  -- no cause of one and then of the other is none of both
  pub uses_free : IsFree (uses_id_checks vs ks) → IsFree (uses_id_checks (used_at ks vs) ls) → IsFree (uses_id_checks vs (ks ++ ls))
  uses_free h k =
      let there : IsFree (absent vs ls) = subst IsFree (there_same ks ls vs) (free_left (absent (used_at ks vs) ls) (use_id_checks (used_at ks vs) ls) k) in
      let first : is_used_again_in ks vs ≡ false = (free_right (absent vs ks) (use_id_checks vs ks) h).0 in
      let then : is_used_again_in ls (used_at ks vs) ≡ false = (free_right (absent (used_at ks vs) ls) (use_id_checks (used_at ks vs) ls) k).0 in
      free_both (absent vs (ks ++ ls)) (use_id_checks vs (ks ++ ls))
      (subst IsFree (sym (checks-append (λ k. missing (slice_get vs k)) ks ls)) (free_both (absent vs ks) (absent vs ls) (free_left (absent vs ks) (use_id_checks vs ks) h) there))
      (again-append ks ls vs ∙ (λ j. first j || then j), tt)

  -- a cause of the first is one of both
  pub uses_first : (e : ErrorKind) → Cause (uses_id_checks vs ks) e → Cause (uses_id_checks vs (ks ++ ls)) e
  uses_first e c = ⊎_elim
      (λ t. cause_left (absent vs (ks ++ ls)) (use_id_checks vs (ks ++ ls)) e (subst (λ (cs : Checks). Cause cs e) (sym (checks-append (λ k. missing (slice_get vs k)) ks ls)) (cause_left (absent vs ks) (absent vs ls) e t)))
      (λ t. cause_right (absent vs (ks ++ ls)) (use_id_checks vs (ks ++ ls)) e (again t))
      (cause_either (absent vs ks) (use_id_checks vs ks) e c)
    where
      again : Cause (use_id_checks vs ks) e → Cause (use_id_checks vs (ks ++ ls)) e
      again (inl t) = inl (t.0, again-append ks ls vs ∙ ap (λ (b : Bool). b || is_used_again_in ls (used_at ks vs)) t.1)
      again (inr t) = absurd t

  -- a cause of the second, after the first, is one of both
  pub uses_then : (e : ErrorKind) → Cause (uses_id_checks (used_at ks vs) ls) e → Cause (uses_id_checks vs (ks ++ ls)) e
  uses_then e c = ⊎_elim
      (λ t. cause_left (absent vs (ks ++ ls)) (use_id_checks vs (ks ++ ls)) e (subst (λ (cs : Checks). Cause cs e) (sym (checks-append (λ k. missing (slice_get vs k)) ks ls))
      (cause_right (absent vs ks) (absent vs ls) e (subst (λ (cs : Checks). Cause cs e) (there_same ks ls vs) t))))
      (λ t. cause_right (absent vs (ks ++ ls)) (use_id_checks vs (ks ++ ls)) e (again t))
      (cause_either (absent (used_at ks vs) ls) (use_id_checks (used_at ks vs) ls) e c)
    where
      again : Cause (use_id_checks (used_at ks vs) ls) e → Cause (use_id_checks vs (ks ++ ls)) e
      again (inl t) = inl (t.0, again-append ks ls vs ∙ ap (λ (b : Bool). is_used_again_in ks vs || b) t.1 ∙ or-true (is_used_again_in ks vs))
      again (inr t) = absurd t
