-- The innermost of the states that are open.
use Rattle.std.proofs.Common.{◌≡◌, ℕ, zero, suc, ◌<◌, ◌-◌, List, [], ◌∷◌, ◌++◌, length, refl, ap, subst, sym, ◌∙◌, arith, slice_set, slice_index_or, All, true}
use Rattle.std.specs.Prelude.{reverse}
use Rattle.std.proofs.lemmas.List.{map-append}
use Rattle.std.proofs.lemmas.List.Elements.{All-nil, All-cons, All-head, All-tail, AllZip-push}
use Rattle.wcv_core.specs.Names.{Place}
use Rattle.wcv_core.specs.declared.error.Error.{Error}
use Rattle.wcv_syntax.specs.Model.{Form}
use Rattle.wcv_types.specs.Arena.{Arena}
use Rattle.wcv_types.specs.Standing.{Extends}
use Rattle.wcv_types.proofs.Grown.{extends_refl}
use Rattle.wcv_lower.specs.Given.{names_of, none_given, GivesAt}
use Rattle.wcv_lower.specs.Growth.{call_checks}
use Rattle.wcv_lower.specs.Names.{Under}
use Rattle.wcv_lower.specs.Trees.{tree_maker}
use Rattle.wcv_spaces.specs.Contents.{Contents, spent, context_of, StateStands}
use Rattle.wcv_spaces.specs.Promises.{numbers_of, MemoryOrCausedBy, Keeps, Grew}
use Rattle.wcv_state.specs.Stack.{IsOpen, stay, all_spent, ChangesLast, GrewOn, RefusedOn, KeepsOn, innermost, around, contexts_around, stack_on}
use Rattle.wcv_spaces.proofs.Keeping.{same_mapped, same_context, keeps_grown, keeps_marked, keeps_trans}

-- ## The innermost and those around it

pub innermost_at : (outer : List Contents) (s : Contents) → innermost (outer ++ s ∷ []) ≡ s
innermost_at [] s = refl
innermost_at (x ∷ []) s = refl
innermost_at (x ∷ y ∷ xs) s = innermost_at (y ∷ xs) s

pub around_at : (outer : List Contents) (s : Contents) → around (outer ++ s ∷ []) ≡ outer
around_at [] s = refl
around_at (x ∷ []) s = refl
around_at (x ∷ y ∷ xs) s = ap (λ (zs : List Contents). x ∷ zs) (around_at (y ∷ xs) s)

pub parted : (ss : List Contents) → 0 < length ss → ss ≡ around ss ++ innermost ss ∷ []
parted [] h = absurd (omega (arith, h))
parted (s ∷ []) h = refl
parted (s ∷ t ∷ ss) h = ap (λ (zs : List Contents). s ∷ zs) (parted (t ∷ ss) (omega arith))

pub some_at : (outer : List Contents) (s : Contents) → 0 < length (outer ++ s ∷ [])
some_at [] s = omega arith
some_at (x ∷ xs) s = omega arith

pub indexed : (ss : List Contents) (k : ℕ) (d : Contents) → 0 < length ss → k ≡ length ss - 1 → slice_index_or ss k d ≡ innermost ss
indexed [] k d h e = absurd (omega (arith, h))
indexed (s ∷ []) k d h e = let z : k ≡ 0 = omega (arith, e) in ap (λ (i : ℕ). slice_index_or (s ∷ []) i d) z
indexed (s ∷ t ∷ ss) k d h e =
    let z : k ≡ suc (length (t ∷ ss) - 1) = omega (arith, e) in
    ap (λ (i : ℕ). slice_index_or (s ∷ t ∷ ss) i d) z ∙ indexed (t ∷ ss) (length (t ∷ ss) - 1) d (omega arith) refl

-- the states, of which the last is the innermost
pub open_split : (a : Arena) (outer : List Contents) (s : Contents) → All (IsOpen a) (outer ++ s ∷ []) → All (IsOpen a) outer × IsOpen a s
open_split a [] s h = (All-nil (IsOpen a), All-head (IsOpen a) s [] h)
open_split a (x ∷ xs) s h =
    let r = open_split a xs s (All-tail (IsOpen a) x (xs ++ s ∷ []) h) in
    (All-cons (IsOpen a) x xs (All-head (IsOpen a) x (xs ++ s ∷ []) h) r.0, r.1)

-- the innermost stands
pub last_stands : (a : Arena) (ss : List Contents) (d : Contents) → 0 < length ss → All (IsOpen a) ss → StateStands a (slice_index_or ss (length ss - 1) d)
last_stands a ss d some h = (h (length ss - 1) d (omega arith)).stands

-- a refusal before any name was given
pub none_made : (a b : Arena) (p : Place) → GivesAt (Under p) (numbers_of a) (numbers_of b) none_given
none_made a b p = record { resources = tt; identities = tt }

-- the last of a list, before and after it is set
record LastSet {X : Type 0} (xs : List X) (k : ℕ) (x : X) (y : X) : Type 0 where
  pub front : List X
  pub was : xs ≡ front ++ x ∷ []
  pub becomes : slice_set xs k y ≡ front ++ y ∷ []

last_set : {X : Type 0} (xs : List X) (k : ℕ) (x y : X) → k ≡ length xs - 1 → 0 < length xs → x ≡ slice_index_or xs k x → LastSet xs k x y
last_set [] k x y e h s = absurd (omega (arith, h))
last_set (z ∷ []) zero x y e h s = record { front = []; was = ap (λ w. w ∷ []) (sym s); becomes = refl }
last_set (z ∷ []) (suc k) x y e h s = absurd (omega (arith, e))
last_set (z ∷ w ∷ xs) zero x y e h s = absurd (omega (arith, e))
last_set (z ∷ w ∷ xs) (suc k) x y e h s =
    let r = last_set (w ∷ xs) k x y (omega (arith, e)) (omega arith) s in
    record { front = z ∷ r.front; was = ap (λ ws. z ∷ ws) r.was; becomes = ap (λ ws. z ∷ ws) r.becomes }

-- ## What each state keeps

module _ (a b : Arena) where
  -- states that stayed while the arena grew
  pub around_kept : Extends a b → (ss : List Contents) → All (IsOpen a) ss → KeepsOn a b ss ss
  around_kept g [] h = tt
  around_kept g (s ∷ ss) h = (keeps_grown a b s g (All-head (IsOpen a) s ss h).stands, around_kept g ss (All-tail (IsOpen a) s ss h))

  -- and so their contexts
  pub around_same : Extends a b → (ss : List Contents) → All (IsOpen a) ss → contexts_around b ss ≡ contexts_around a ss
  around_same g ss h = ap reverse (same_mapped (IsOpen a) (context_of b) (context_of a) ss (λ s w. same_context a b g s w.stands) h)

  -- states of which each was marked after that
  pub kept_marked : (ss ss' : List Contents) → KeepsOn a b ss ss' → KeepsOn a b ss (all_spent ss')
  kept_marked [] [] h = tt
  kept_marked [] (t ∷ ts) h = elim h [ ]
  kept_marked (s ∷ ss) [] h = elim h [ ]
  kept_marked (s ∷ ss) (t ∷ ts) h = (keeps_trans a b b s t (spent t) h.0 (keeps_marked b t t true refl h.0.stands), kept_marked ss ts h.1)

-- states that stayed
stay_kept : (a : Arena) (ss : List Contents) → All (StateStands a) ss → KeepsOn a a ss ss
stay_kept a [] h = tt
stay_kept a (s ∷ ss) h = (keeps_grown a a s (extends_refl a) (All-head (StateStands a) s ss h), stay_kept a ss (All-tail (StateStands a) s ss h))

-- after one call and then another
pub kept_both : (a b c : Arena) (ss ts us : List Contents) → KeepsOn a b ss ts → KeepsOn b c ts us → KeepsOn a c ss us
kept_both a b c [] [] [] h k = tt
kept_both a b c [] [] (u ∷ us) h k = elim k [ ]
kept_both a b c [] (t ∷ ts) us h k = elim h [ ]
kept_both a b c (s ∷ ss) [] us h k = elim h [ ]
kept_both a b c (s ∷ ss) (t ∷ ts) [] h k = elim k [ ]
kept_both a b c (s ∷ ss) (t ∷ ts) (u ∷ us) h k = (keeps_trans a b c s t u h.0 k.0, kept_both a b c ss ts us h.1 k.1)

-- where one of them became another
pub kept_set : (a : Arena) (ss : List Contents) (k : ℕ) (s t : Contents) → All (StateStands a) ss → s ≡ slice_index_or ss k s → Keeps a a s t → KeepsOn a a ss (slice_set ss k t)
kept_set a [] zero s t h e w = tt
kept_set a [] (suc k) s t h e w = tt
kept_set a (x ∷ xs) zero s t h e w = (subst (λ (z : Contents). Keeps a a z t) e w, stay_kept a xs (All-tail (StateStands a) x xs h))
kept_set a (x ∷ xs) (suc k) s t h e w = (keeps_grown a a x (extends_refl a) (All-head (StateStands a) x xs h), kept_set a xs k s t (All-tail (StateStands a) x xs h) e w)

-- ## The states before and after a call on the innermost

module _ (ss : List Contents) (k : ℕ) (s s' : Contents) (e : k ≡ length ss - 1) (h : 0 < length ss) (i : s ≡ slice_index_or ss k s) where
  pub grew_on : (a a' : Arena) (p : Place) (f : Form) → All (IsOpen a) ss → Extends a a' → ((outer : List Contents) → ss ≡ outer ++ s ∷ [] → Grew a a' (contexts_around a outer) p s s' f) → GrewOn a a' p ss (slice_set ss k s') f
  grew_on a a' p f o x g = let r = last_set ss k s s' e h i in record {
    last = record { outer = r.front; old = s; new = s'; was = r.was; becomes = r.becomes };
    around = around_same a a' x r.front (open_split a r.front s (subst (All (IsOpen a)) r.was o)).0;
    grew = g r.front r.was;
  }

  pub kept_on : (a a' : Arena) → All (IsOpen a) ss → Keeps a a' s s' → KeepsOn a a' ss (slice_set ss k s')
  kept_on a a' o w =
      let r = last_set ss k s s' e h i in
      let around : All (IsOpen a) r.front = (open_split a r.front s (subst (All (IsOpen a)) r.was o)).0 in
      subst (KeepsOn a a' ss) (sym r.becomes) (subst (λ (xs : List Contents). KeepsOn a a' xs (r.front ++ s' ∷ [])) (sym r.was)
      (AllZip-push (Keeps a a') r.front r.front s s' (around_kept a a' w.arena r.front around) w))

-- ## All are marked after that

pub marked : (t : Contents) (front ts : List Contents) → ts ≡ front ++ t ∷ [] → all_spent ts ≡ all_spent front ++ spent t ∷ []
marked t front ts w = ap all_spent w ∙ map-append spent front (t ∷ [])

-- where the innermost alone became another before
module _ (ss : List Contents) (k : ℕ) (s s' : Contents) (e : k ≡ length ss - 1) (h : 0 < length ss) (i : s ≡ slice_index_or ss k s) where
  pub refused_on : {M : Type 0} (a a' : Arena) (p : Place) (f : Form) (offset : ℕ) (x : Error M) →
      ((outer : List Contents) → ss ≡ outer ++ s ∷ [] → MemoryOrCausedBy (call_checks s.features (tree_maker (names_of none_given) p) (stack_on a outer s) f) offset x) →
      RefusedOn a a' p ss (all_spent (slice_set ss k s')) f offset x
  refused_on a a' p f offset x g = let r = last_set ss k s s' e h i in record {
    last = record { outer = r.front; old = s; new = spent s'; was = r.was; becomes = marked s' r.front (slice_set ss k s') r.becomes };
    refused = (refl, record { names = none_given; given = none_made a a' p; caused = g r.front r.was });
  }

-- the innermost became another
pub last_becomes : (ss : List Contents) (k : ℕ) (s s' : Contents) → k ≡ length ss - 1 → 0 < length ss → s ≡ slice_index_or ss k s → ChangesLast stay ss (slice_set ss k s')
last_becomes ss k s s' e h i = let r = last_set ss k s s' e h i in record { outer = r.front; old = s; new = s'; was = r.was; becomes = r.becomes }

-- where it may have, and is refused
pub refused_alone : {M : Type 0} (a : Arena) (p : Place) (ss ts : List Contents) (f : Form) (offset : ℕ) (x : Error M) → ChangesLast stay ss ts →
    MemoryOrCausedBy (call_checks (innermost ss).features (tree_maker (names_of none_given) p) (stack_on a (around ss) (innermost ss)) f) offset x → RefusedOn a a p ss (all_spent ts) f offset x
refused_alone a p ss ts f offset x l w =
    let s : innermost ss ≡ l.old = ap innermost l.was ∙ innermost_at l.outer l.old in
    let o : around ss ≡ l.outer = ap around l.was ∙ around_at l.outer l.old in
    record {
      last = record { outer = l.outer; old = l.old; new = spent l.new; was = l.was; becomes = marked l.new l.outer ts l.becomes };
      refused = (
        refl,
        record {
          names = none_given;
          given = none_made a a p;
          caused = subst (λ (y : Contents × List Contents). MemoryOrCausedBy (call_checks y.0.features (tree_maker (names_of none_given) p) (stack_on a y.1 y.0) f) offset x) (λ j. (s j, o j)) w;
        },
      );
    }
