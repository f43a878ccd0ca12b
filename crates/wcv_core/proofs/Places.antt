-- Places inside others.
use Rattle.std.proofs.Common.{◌≡◌, ℕ, [], ◌∷◌, true, false, ◌&&◌, eqb, refl, sym, ◌∙◌, eq-eqb}
use Rattle.std.proofs.lemmas.Bool.{eqb-true}
use Rattle.wcv_core.specs.Names.{Place, deeper, under}
use Rattle.wcv_core.proofs.Names.{and_left, and_right}

pub under-refl : (p : Place) → under p p ≡ true
under-refl [] = refl
under-refl (k ∷ p) =
    let e : eqb k k ≡ true = eq-eqb k k refl in
    let e' : under p p ≡ true = under-refl p in
    λ j. e j && e' j

-- what is inside an item is inside its list's own place
pub under-deeper : (p : Place) (k : ℕ) (q : Place) → under (deeper p k) q ≡ true → under p q ≡ true
under-deeper [] k q h = refl
under-deeper (m ∷ p) k [] h = h
under-deeper (m ∷ p) k (n ∷ q) h =
    let e : eqb m n ≡ true = and_left _ _ h in
    let e' : under p q ≡ true = under-deeper p k q (and_right _ _ h) in
    λ j. e j && e' j

-- no place is inside two items of one list
pub one-item : (p : Place) (j k : ℕ) (q : Place) → under (deeper p j) q ≡ true → under (deeper p k) q ≡ true → j ≡ k
one-item [] j k [] h g = cc
one-item [] j k (n ∷ q) h g = eqb-true j n (and_left _ _ h) ∙ sym (eqb-true k n (and_left _ _ g))
one-item (m ∷ p) j k [] h g = cc
one-item (m ∷ p) j k (n ∷ q) h g = one-item p j k q (and_right _ _ h) (and_right _ _ g)

-- the list's own place is inside none of its items
pub not-inside : (p : Place) (k : ℕ) → under (deeper p k) p ≡ false
not-inside [] k = refl
not-inside (m ∷ p) k =
    let e : eqb m m ≡ true = eq-eqb m m refl in
    let e' : under (deeper p k) p ≡ false = not-inside p k in
    λ j. e j && e' j
