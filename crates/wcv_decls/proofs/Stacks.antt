-- The states that are open, before the innermost became another and once they were marked.
use Rattle.std.proofs.Common.{◌≡◌, ℕ, suc, ◌<◌, List, [], ◌∷◌, ◌++◌, length, map, take, refl, ap, subst, sym, ◌∙◌, arith}
use Rattle.std.proofs.lemmas.List.{length-map, take_at}
use Rattle.wcv_core.specs.Names.{Place}
use Rattle.wcv_core.specs.declared.error.Error.{Error}
use Rattle.wcv_syntax.specs.Model.{Form}
use Rattle.wcv_types.proofs.Lists.{map-id}
use Rattle.wcv_types.specs.Arena.{Arena}
use Rattle.wcv_lower.specs.Given.{names_of, none_given}
use Rattle.wcv_spaces.specs.Contents.{Contents, spent}
use Rattle.wcv_state.proofs.Stacks.{none_made, marked}
use Rattle.wcv_decls.specs.CoreItems.{CausedIn}
use Rattle.wcv_decls.specs.Stack.{all_spent, RefusedOn, KeepsOn}

-- where no state became another before
record Innermost (ss : List Contents) : Type 0 where
  pub outer : List Contents
  pub last : Contents
  pub was : ss ≡ outer ++ last ∷ []

innermost : (ss : List Contents) → 0 < length ss → Innermost ss
innermost [] h = absurd (omega (arith, h))
innermost (s ∷ []) h = record { outer = []; last = s; was = refl }
innermost (s ∷ t ∷ ss) h = let r = innermost (t ∷ ss) (omega arith) in record { outer = s ∷ r.outer; last = r.last; was = ap (λ xs. s ∷ xs) r.was }

pub refused_before : {M : Type 0} (a a' : Arena) (p : Place) (ss : List Contents) (f : Form) (offset : ℕ) (x : Error M) → 0 < length ss → CausedIn a ss f offset x → RefusedOn a a' p ss (all_spent ss) f offset x
refused_before a a' p ss f offset x h g = let r = innermost ss h in record {
  last = record { outer = r.outer; old = r.last; new = spent r.last; was = r.was; becomes = marked r.last r.outer ss r.was };
  refused = (refl, record { names = none_given; given = none_made a a' p; caused = g r.outer r.last r.was (names_of none_given) p });
}

-- what a vector holds once the states in it were marked
pub written_back : (xs ys ts zs : List Contents) (n : ℕ) → n ≡ length xs → ts ≡ xs → ys ≡ all_spent ts → take n (ys ++ zs) ≡ all_spent xs
written_back xs ys ts zs n l e w =
    let same : ys ≡ all_spent xs = w ∙ ap all_spent e in
    let long : n ≡ length ys = l ∙ sym (length-map xs spent) ∙ sym (ap length same) in
    ap (λ m. take m (ys ++ zs)) long ∙ take_at ys zs (length ys) refl ∙ same

-- what holds of the states holds of them as a trait sees them
pub both_mapped : (P : List Contents → List Contents → Type 0) (ss ss' : List Contents) → P ss ss' → P (map (λ x. x) ss) (map (λ x. x) ss')
both_mapped P ss ss' h = subst (P (map (λ x. x) ss)) (sym (map-id ss')) (subst (λ (xs : List Contents). P xs ss') (sym (map-id ss)) h)

-- and what a trait says of the states holds of them
pub unmapped : (P : List Contents → List Contents → Type 0) (ss ss' : List Contents) → P (map (λ x. x) ss) (map (λ x. x) ss') → P ss ss'
unmapped P ss ss' h = subst (P ss) (map-id ss') (subst (λ (xs : List Contents). P xs (map (λ x. x) ss')) (map-id ss) h)

-- what a vector holds once a call changed its states in place
pub kept_back : (a b : Arena) (ss ys zs : List Contents) (n : ℕ) → n ≡ length ss → KeepsOn a b ss ys → take n (ys ++ zs) ≡ ys
kept_back a b ss ys zs n l k = take_at ys zs n (as_long ss ys k ∙ sym l)
  where
    as_long : (ss ys : List Contents) → KeepsOn a b ss ys → length ys ≡ length ss
    as_long [] [] h = refl
    as_long [] (t ∷ ts) h = elim h [ ]
    as_long (s ∷ ss) [] h = elim h [ ]
    as_long (s ∷ ss) (t ∷ ts) h = ap suc (as_long ss ts h.1)
