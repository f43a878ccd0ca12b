-- Causes and their absence, in lists of checks.
use Rattle.std.proofs.Common.{◌≡◌, [], ◌∷◌, ◌++◌, refl, sym, ◌∙◌, Bool, true, false, ◌⊎◌, inl, inr}
use Rattle.std.proofs.lemmas.Bool.{false≢true}
use Rattle.wcv_core.specs.declared.error.ErrorKind.{ErrorKind}
use Rattle.wcv_core.specs.Checks.{Checks, Cause, IsFree}

pub free_or_cause : (cs : Checks) (k : ErrorKind) → IsFree cs → Cause cs k → ⊥
free_or_cause [] k f c = c
free_or_cause (x ∷ cs) k f (inl c) = false≢true (sym f.0 ∙ c.1)
free_or_cause (x ∷ cs) k f (inr c) = free_or_cause cs k f.1 c

-- there is no cause, or there is one
pub decided : (cs : Checks) → IsFree cs ⊎ ((k : ErrorKind) × Cause cs k)
decided [] = inl tt
decided (x ∷ cs) = go x.1 refl (decided cs)
  where
    go : (b : Bool) → x.1 ≡ b → IsFree cs ⊎ ((k : ErrorKind) × Cause cs k) → IsFree (x ∷ cs) ⊎ ((k : ErrorKind) × Cause (x ∷ cs) k)
    go true e d = inr (x.0, inl (refl, e))
    go false e (inl f) = inl (e, f)
    go false e (inr c) = inr (c.0, inr c.1)

-- ## Two lists

pub cause_left : (cs ds : Checks) (k : ErrorKind) → Cause cs k → Cause (cs ++ ds) k
cause_left [] ds k c = absurd c
cause_left (x ∷ cs) ds k (inl c) = inl c
cause_left (x ∷ cs) ds k (inr c) = inr (cause_left cs ds k c)

pub cause_right : (cs ds : Checks) (k : ErrorKind) → Cause ds k → Cause (cs ++ ds) k
cause_right [] ds k c = c
cause_right (x ∷ cs) ds k c = inr (cause_right cs ds k c)

pub cause_either : (cs ds : Checks) (k : ErrorKind) → Cause (cs ++ ds) k → Cause cs k ⊎ Cause ds k
cause_either [] ds k c = inr c
cause_either (x ∷ cs) ds k (inl c) = inl (inl c)
cause_either (x ∷ cs) ds k (inr c) = go (cause_either cs ds k c)
  where
    go : Cause cs k ⊎ Cause ds k → Cause (x ∷ cs) k ⊎ Cause ds k
    go (inl d) = inl (inr d)
    go (inr d) = inr d

pub free_both : (cs ds : Checks) → IsFree cs → IsFree ds → IsFree (cs ++ ds)
free_both [] ds f g = g
free_both (x ∷ cs) ds f g = (f.0, free_both cs ds f.1 g)

pub free_left : (cs ds : Checks) → IsFree (cs ++ ds) → IsFree cs
free_left [] ds f = tt
free_left (x ∷ cs) ds f = (f.0, free_left cs ds f.1)

pub free_right : (cs ds : Checks) → IsFree (cs ++ ds) → IsFree ds
free_right [] ds f = f
free_right (x ∷ cs) ds f = free_right cs ds f.1
