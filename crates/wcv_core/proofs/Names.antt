-- The tests on names and places answer equality.
use Rattle.std.proofs.Common.{◌≡◌, [], ◌∷◌, Bool, true, ◌&&◌, eq-eqb, refl, ap, subst, arith}
use Rattle.std.proofs.lemmas.Bool.{eqb-true}
use Rattle.wcv_core.specs.Names.{Place, Name, number, stamp, base, at, stamped, aside, same_place, same}

pub and_left : (a b : Bool) → (a && b) ≡ true → a ≡ true
and_left a b h = grind arith

pub and_right : (a b : Bool) → (a && b) ≡ true → b ≡ true
and_right a b h = grind arith

and_both : (a b : Bool) → a ≡ true → b ≡ true → (a && b) ≡ true
and_both a b h k = grind arith

pub same_place-true : (p q : Place) → same_place p q ≡ true → p ≡ q
same_place-true [] [] h = refl
same_place-true (m ∷ p) (n ∷ q) h =
    let e : m ≡ n = eqb-true m n (and_left _ _ h) in
    let f : p ≡ q = same_place-true p q (and_right _ _ h) in
    (λ j. e j ∷ f j)
same_place-true [] (n ∷ q) h = cc
same_place-true (m ∷ p) [] h = cc

pub same_place-refl : (p : Place) → same_place p p ≡ true
same_place-refl [] = refl
same_place-refl (m ∷ p) = and_both _ _ (eq-eqb m m refl) (same_place-refl p)

pub same-true : (a b : Name) → same a b ≡ true → a ≡ b
same-true (number m) (number n) h = ap number (eqb-true m n h)
same-true (stamp m) (stamp n) h = ap stamp (eqb-true m n h)
same-true (base p) (base q) h = ap base (same_place-true p q h)
same-true (at p a) (at q b) h =
    let e : p ≡ q = same_place-true p q (and_left _ _ h) in
    let f : a ≡ b = same-true a b (and_right _ _ h) in
    (λ j. at (e j) (f j))
same-true (stamped p) (stamped q) h = ap stamped (same_place-true p q h)
same-true (aside a) (aside b) h = ap aside (same-true a b h)
same-true _ _ h = cc

pub same-refl : (a : Name) → same a a ≡ true
same-refl (number m) = eq-eqb m m refl
same-refl (stamp m) = eq-eqb m m refl
same-refl (base p) = same_place-refl p
same-refl (at p a) = and_both _ _ (same_place-refl p) (same-refl a)
same-refl (stamped p) = same_place-refl p
same-refl (aside a) = same-refl a

pub same-equal : (a b : Name) → a ≡ b → same a b ≡ true
same-equal a b e = subst (λ (x : Name). same a x ≡ true) e (same-refl a)
