-- Pairs that stand twice.
use Rattle.std.proofs.Common.{◌≡◌, ℕ, zero, suc, ◌+◌, ◌<◌, List, [], ◌∷◌, ◌++◌, length, take, get_or, Bool, true, false, ◌||◌, ◌&&◌, refl, sym, ◌∙◌, ap, arith, subst, add-one, ◌⊎◌, inl, inr}
use Rattle.std.proofs.Math.Bool.{or_assoc, or_comm, or-false, or-true}
use Rattle.std.proofs.lemmas.Bool.{false≢true, or_cases}
use Rattle.std.specs.Str.{bytes_eq}
use Rattle.std.proofs.lemmas.Slice.Eq.{bytes_eq-Decides}
use Rattle.wcv_core.proofs.Among.{bytes_eq-sym}
use Rattle.wcv_core.proofs.Rowing.{length-map, get_or-map}
use Rattle.wcv_syntax.specs.Model.{Text}
use Rattle.wcv_syntax.specs.ModuleTypes.{Core_import, same_pair, is_pair_among, import_pairs, pairs_repeat}
use Rattle.wcv_module.proofs.Pairing.{same_texts}

same_self : (p : Text × Text) → same_pair p p ≡ true
same_self p = ap (λ (b : Bool). b && bytes_eq p.1 p.1) (own p.0) ∙ own p.1
  where
    own : (t : Text) → bytes_eq t t ≡ true
    own t = grind (arith, bytes_eq-Decides t t)

same_sym : (p q : Text × Text) → same_pair p q ≡ same_pair q p
same_sym p q = λ j. bytes_eq-sym p.0 q.0 j && bytes_eq-sym p.1 q.1 j

-- a pair is among those of which it is one
among_at : (ps : List (Text × Text)) (i : ℕ) (d : Text × Text) → i < length ps → is_pair_among (get_or ps i d) ps ≡ true
among_at [] i d h = Prim.absurd (omega arith)
among_at (p ∷ ps) zero d h = ap (λ (b : Bool). b || is_pair_among p ps) (same_self p)
among_at (p ∷ ps) (suc i) d h = ap (λ (b : Bool). same_pair (get_or ps i d) p || b) (among_at ps i d (omega arith)) ∙ or-true (same_pair (get_or ps i d) p)

-- a pair that stands among those before it stands twice
pub repeats_at : (ps : List (Text × Text)) (i : ℕ) (d : Text × Text) → i < length ps → is_pair_among (get_or ps i d) (take i ps) ≡ true → pairs_repeat ps ≡ true
repeats_at [] i d h e = Prim.absurd (omega arith)
repeats_at (p ∷ ps) zero d h e = Prim.absurd (false≢true e)
repeats_at (p ∷ ps) (suc i) d h e = go (repeats_at ps i d (omega arith)) (or_cases (same_pair (get_or ps i d) p) (is_pair_among (get_or ps i d) (take i ps)) e)
  where
    go : (is_pair_among (get_or ps i d) (take i ps) ≡ true → pairs_repeat ps ≡ true) → (same_pair (get_or ps i d) p ≡ true) ⊎ (is_pair_among (get_or ps i d) (take i ps) ≡ true) → (is_pair_among p ps || pairs_repeat ps) ≡ true
    go more (inl s) = ap (λ (b : Bool). b || pairs_repeat ps) (subst (λ q. is_pair_among q ps ≡ true) (same_texts (get_or ps i d) p s) (among_at ps i d (omega arith)))
    go more (inr r) = ap (λ (b : Bool). is_pair_among p ps || b) (more r) ∙ or-true (is_pair_among p ps)

-- ## One more pair at the end

pub among_push : (p q : Text × Text) (ps : List (Text × Text)) → is_pair_among p (ps ++ q ∷ []) ≡ (is_pair_among p ps || same_pair p q)
among_push p q [] = or-false (same_pair p q)
among_push p q (r ∷ ps) = ap (λ (b : Bool). same_pair p r || b) (among_push p q ps) ∙ sym (or_assoc (same_pair p r) (is_pair_among p ps) (same_pair p q))

or_four : (a b c d : Bool) → ((a || b) || (c || d)) ≡ ((a || c) || (b || d))
or_four a b c d = grind arith

pub repeat_push : (q : Text × Text) (ps : List (Text × Text)) → pairs_repeat (ps ++ q ∷ []) ≡ (pairs_repeat ps || is_pair_among q ps)
repeat_push q [] = refl
repeat_push q (p ∷ ps) =
    (λ j. among_push p q ps j || repeat_push q ps j) ∙ or_four (is_pair_among p ps) (same_pair p q) (pairs_repeat ps) (is_pair_among q ps)
    ∙ ap (λ (b : Bool). (is_pair_among p ps || pairs_repeat ps) || (b || is_pair_among q ps)) (same_sym p q)

take_suc : (ps : List (Text × Text)) (i : ℕ) (d : Text × Text) → i < length ps → take (suc i) ps ≡ take i ps ++ get_or ps i d ∷ []
take_suc [] i d h = Prim.absurd (omega arith)
take_suc (p ∷ ps) zero d h = refl
take_suc (p ∷ ps) (suc i) d h = λ j. p ∷ take_suc ps i d (omega arith) j

take_next : (ps : List (Text × Text)) (i : ℕ) (d : Text × Text) → i < length ps → take (i + 1) ps ≡ take i ps ++ get_or ps i d ∷ []
take_next ps i d h = ap (λ (n : ℕ). take n ps) (add-one i) ∙ take_suc ps i d h

-- the pairs so far differ, and the next one is none of them
pub none_next : (ps : List (Text × Text)) (i : ℕ) (d : Text × Text) → i < length ps → pairs_repeat (take i ps) ≡ false → is_pair_among (get_or ps i d) (take i ps) ≡ false → pairs_repeat (take (i + 1) ps) ≡ false
none_next ps i d h e f = ap pairs_repeat (take_next ps i d h) ∙ repeat_push (get_or ps i d) (take i ps) ∙ λ j. e j || f j

-- what a set has that had the pairs so far, and has the next one too
pub seen_next : (p : Text × Text) (ps : List (Text × Text)) (i : ℕ) (d : Text × Text) → i < length ps → (same_pair p (get_or ps i d) || is_pair_among p (take i ps)) ≡ is_pair_among p (take (i + 1) ps)
seen_next p ps i d h = or_comm (same_pair p (get_or ps i d)) (is_pair_among p (take i ps)) ∙ sym (among_push p (get_or ps i d) (take i ps)) ∙ ap (is_pair_among p) (sym (take_next ps i d h))

-- ## So of imports

pair_at : (is : List Core_import) (i : ℕ) (x : Core_import) → x ≡ get_or is i x → get_or (import_pairs is) i x.0 ≡ x.0
pair_at is i x e = get_or-map (λ (y : Core_import). y.0) is i x ∙ ap (λ (y : Core_import). y.0) (sym e)

pub imports_repeat : (is : List Core_import) (i : ℕ) (x : Core_import) → i < length is → x ≡ get_or is i x → is_pair_among x.0 (take i (import_pairs is)) ≡ true → pairs_repeat (import_pairs is) ≡ true
imports_repeat is i x h e a =
    repeats_at (import_pairs is) i x.0 (omega (arith, length-map (λ (y : Core_import). y.0) is)) (ap (λ p. is_pair_among p (take i (import_pairs is))) (pair_at is i x e) ∙ a)

pub imports_none : (is : List Core_import) (i : ℕ) (x : Core_import) → i < length is → x ≡ get_or is i x → pairs_repeat (take i (import_pairs is)) ≡ false → is_pair_among x.0 (take i (import_pairs is)) ≡ false → pairs_repeat (take (i + 1) (import_pairs is)) ≡ false
imports_none is i x h e f a =
    none_next (import_pairs is) i x.0 (omega (arith, length-map (λ (y : Core_import). y.0) is)) f (ap (λ p. is_pair_among p (take i (import_pairs is))) (pair_at is i x e) ∙ a)

pub imports_seen : (p : Text × Text) (is : List Core_import) (i : ℕ) (x : Core_import) → i < length is → x ≡ get_or is i x → (same_pair p x.0 || is_pair_among p (take i (import_pairs is))) ≡ is_pair_among p (take (i + 1) (import_pairs is))
imports_seen p is i x h e =
    ap (λ q. same_pair p q || is_pair_among p (take i (import_pairs is))) (sym (pair_at is i x e))
    ∙ seen_next p (import_pairs is) i x.0 (omega (arith, length-map (λ (y : Core_import). y.0) is))
