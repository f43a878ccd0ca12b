-- The types above a type, each the declared supertype of the one before.
use Rattle.std.proofs.Common.{◌≡◌, ℕ, zero, suc, ◌+◌, ◌<◌, List, [], ◌∷◌, length, get_or, eqb, Bool, true, false, ◌||◌, Option, Some, None, IfSome, refl, ◌∙◌, ap, arith, subst, eq-eqb}
use Rattle.std.proofs.lemmas.Bool.{eqb-true}
use Rattle.wcv_core.specs.CoreAbove.{if_parent, climbs, is_declared, parent_of, LeadsUp, AreAbove}
use Rattle.wcv_core.specs.CoreForm.{Group}
use Rattle.wcv_core.specs.CoreGroups.{total, parents_from, AreClosed, depth_after, depths_of}
use Rattle.wcv_core.proofs.Climbing.{before, depth_law, climb_step}

-- each supertype stands before its type
parent_before : (gs : List Group) (a p : ℕ) → AreClosed 0 gs → parent_of gs a ≡ Some p → p < a
parent_before gs a p c e = let l : p < 0 + a = subst (λ (o : Option ℕ). IfSome o (λ q. q < 0 + a)) e (before 0 gs c a) in omega (arith, l)

-- ## How many there are

above_some : (gs : List Group) (n a : ℕ) → AreClosed 0 gs → a < n → (ps : List ℕ) × AreAbove gs a ps
above_some gs zero a c h = Prim.absurd (omega arith)
above_some gs (suc n) a c h = go (parent_of gs a) refl (λ p l. above_some gs n p c (omega (arith, l, h)))
  where
    go : (o : Option ℕ) → parent_of gs a ≡ o → ((p : ℕ) → p < a → (ps : List ℕ) × AreAbove gs p ps) → (ps : List ℕ) × AreAbove gs a ps
    go None e r = ([], e)
    go (Some p) e r = let w = r p (parent_before gs a p c e) in (p ∷ w.0, (e, w.1))

pub has_above : (gs : List Group) (a : ℕ) → AreClosed 0 gs → (ps : List ℕ) × AreAbove gs a ps
has_above gs a c = above_some gs (suc a) a c (omega arith)

pub above_counted : (gs : List Group) (a : ℕ) (ps : List ℕ) → AreClosed 0 gs → a < total gs → AreAbove gs a ps → get_or (depths_of gs) a 0 ≡ length ps
above_counted gs a [] c h w = depth_law gs a c h ∙ ap (depth_after (depths_of gs)) w
above_counted gs a (p ∷ ps) c h w =
    let l : p < a = parent_before gs a p c w.0 in
    let d : get_or (depths_of gs) a 0 ≡ get_or (depths_of gs) p 0 + 1 = depth_law gs a c h ∙ ap (depth_after (depths_of gs)) w.0 in
    let r : get_or (depths_of gs) p 0 ≡ length ps = above_counted gs p ps c (omega (arith, l, h)) w.1 in
    omega (arith, d, r)

-- ## The closure

climbs_lead : (gs : List Group) (n a b : ℕ) → climbs n (parents_from 0 gs) a b ≡ true → (ps : List ℕ) × LeadsUp gs a ps b
climbs_lead gs zero a b e = cc
climbs_lead gs (suc n) a b e = go (eqb a b) refl (parent_of gs a) refl e (λ p f. climbs_lead gs n p b f)
  where
    go : (t : Bool) → eqb a b ≡ t → (o : Option ℕ) → parent_of gs a ≡ o → (t || if_parent o (λ p. climbs n (parents_from 0 gs) p b)) ≡ true
        → ((p : ℕ) → climbs n (parents_from 0 gs) p b ≡ true → (ps : List ℕ) × LeadsUp gs p ps b) → (ps : List ℕ) × LeadsUp gs a ps b
    go true x o y e r = ([], eqb-true a b x)
    go false x None y e r = cc
    go false x (Some p) y e r = let w = r p e in (p ∷ w.0, (y, w.1))

pub declared_leads : (gs : List Group) (a b : ℕ) → is_declared gs a b ≡ true → (ps : List ℕ) × LeadsUp gs a ps b
unfolding is_declared
declared_leads gs a b e = climbs_lead gs (suc a) a b e

declared_itself : (gs : List Group) (a b : ℕ) → eqb a b ≡ true → is_declared gs a b ≡ true
unfolding is_declared
declared_itself gs a b e = ap (λ (t : Bool). t || if_parent (parent_of gs a) (λ p. climbs a (parents_from 0 gs) p b)) e

pub leads_declared : (gs : List Group) (a b : ℕ) (ps : List ℕ) → AreClosed 0 gs → LeadsUp gs a ps b → is_declared gs a b ≡ true
leads_declared gs a b [] c w = declared_itself gs a b (eq-eqb a b w)
leads_declared gs a b (p ∷ ps) c w = go (eqb a b) refl (leads_declared gs p b ps c w.1)
  where
    go : (t : Bool) → eqb a b ≡ t → is_declared gs p b ≡ true → is_declared gs a b ≡ true
    go true e r = declared_itself gs a b e
    go false e r = climb_step gs a p b c w.0 e ∙ r
