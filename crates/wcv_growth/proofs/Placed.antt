-- Names of resources by the places at which they are given.
use Rattle.std.proofs.Common.{◌≡◌, ℕ, suc, ◌<◌, sym, ◌∙◌, subst, arith, ◌⊎◌, inl, inr}
use Rattle.std.proofs.lemmas.Bool.{false≢true}
use Rattle.wcv_core.specs.Names.{Name, Place, base, at, deeper}
use Rattle.wcv_core.proofs.Places.{under-refl, under-deeper, one-item, not-inside}
use Rattle.wcv_lower.specs.Names.{Under}

-- the name is given at that place
abbrev pub PlacedAt : Place → Name → Type 0
PlacedAt p r = (r ≡ base p) ⊎ ((x : Name) × (r ≡ at p x))

-- there or inside it
abbrev pub PlacedUnder : Place → Name → Type 0
PlacedUnder p r = (q : Place) × Under p q × PlacedAt q r

-- by an item of the list at place w that stands before position k
abbrev pub PlacedBefore : Place → ℕ → Name → Type 0
PlacedBefore w k r = (j : ℕ) × (j < k) × PlacedUnder (deeper w j) r

pub placed_here : (p : Place) (r : Name) → PlacedAt p r → PlacedUnder p r
placed_here p r h = (p, under-refl p, h)

module _ (w : Place) (k : ℕ) (r : Name) where
  pub later : PlacedBefore w k r → PlacedBefore w (suc k) r
  later h = let l = h.1 in (h.0, omega (arith, l), h.2)

  pub by_this_item : PlacedUnder (deeper w k) r → PlacedBefore w (suc k) r
  by_this_item h = (k, omega arith, h)

  -- it is given inside the list's own place
  pub in_list : PlacedBefore w k r → PlacedUnder w r
  in_list h = (h.2.0, under-deeper w h.0 h.2.0 h.2.1, h.2.2)

-- a name is given at one place
one_place : (p q : Place) (r : Name) → PlacedAt p r → PlacedAt q r → p ≡ q
one_place p q r (inl e) (inl f) = bases (sym e ∙ f)
  where
    bases : base p ≡ base q → p ≡ q
    bases h = cc
one_place p q r (inl e) (inr f) = absurd (apart f.0 (sym e ∙ f.1))
  where
    apart : (x : Name) → base p ≡ at q x → ⊥
    apart x h = cc
one_place p q r (inr e) (inl f) = absurd (apart e.0 (sym f ∙ e.1))
  where
    apart : (x : Name) → base q ≡ at p x → ⊥
    apart x h = cc
one_place p q r (inr e) (inr f) = both e.0 f.0 (sym e.1 ∙ f.1)
  where
    both : (x y : Name) → at p x ≡ at q y → p ≡ q
    both x y h = cc

-- what an item gives, none before it gave
pub not_yet : (w : Place) (k : ℕ) (r : Name) → PlacedUnder (deeper w k) r → PlacedBefore w k r → ⊥
not_yet w k r h g =
    let e : h.0 ≡ g.2.0 = one_place h.0 g.2.0 r h.2 g.2.2 in
    let j : g.0 ≡ k = one-item w g.0 k h.0 (subst (Under (deeper w g.0)) (sym e) g.2.1) h.1 in
    let l = g.1 in
    omega (arith, j, l)

-- what is given at the list's own place, no item of the list gives
pub not_in_list : (w : Place) (k : ℕ) (r : Name) → PlacedAt w r → PlacedBefore w k r → ⊥
not_in_list w k r h g =
    let e : w ≡ g.2.0 = one_place w g.2.0 r h g.2.2 in
    false≢true (sym (not-inside w g.0) ∙ subst (Under (deeper w g.0)) (sym e) g.2.1)
