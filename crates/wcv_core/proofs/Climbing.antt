-- Depths and declared supertypes.
use Rattle.wcv_core.specs.Limits.{max_supertypes}
use Rattle.std.proofs.Common.{◌≡◌, ℕ, zero, suc, ◌+◌, ◌-◌, ◌<◌, ◌≤◌, List, [], ◌∷◌, ◌++◌, length, map, get_or, eqb, Bool, true, false, ◌||◌, ◌⊎◌, inl, inr, Option, Some, None, IfSome, refl, sym, ◌∙◌, ap, arith, subst, length-append, eq-eqb, nat_lt}
use Rattle.std.proofs.lemmas.Bool.{eqb-true}
use Rattle.wcv_core.specs.CoreForm.{Group}
use Rattle.wcv_core.specs.CoreGroups.{total, parent_in, parents_from, AreOrdered, AreClosed, depth_after, add_depths, depths_of}
use Rattle.wcv_core.specs.Checks.{Cause}
use Rattle.wcv_core.specs.CoreRules.{super_checks, type_checks}
use Rattle.wcv_core.specs.declared.error.ErrorKind.{ErrorKind}
use Rattle.wcv_core.specs.declared.error.ErrorKind.TheVariants as kind
use Rattle.wcv_core.specs.CoreAbove.{if_parent, climbs, is_declared}
use Rattle.wcv_core.proofs.Rowing.{length-map, get_or-front, get_or-back, is_below, split}
use Rattle.wcv_core.proofs.Kept.{length-parents}

-- ## Parents stand before

abbrev pub AreBefore : ℕ → List (Option ℕ) → Type 0
AreBefore n ps = (i : ℕ) → IfSome (get_or ps i None) (λ p. p < n + i)

in_group : (n : ℕ) (g : Group) (i j : ℕ) → AreOrdered n i g → IfSome (get_or (map (parent_in n) g) j None) (λ p. p < i + j)
in_group n [] i j o = tt
in_group n (s ∷ g) i zero o = let e : i ≡ i + 0 = omega arith in subst (λ (m : ℕ). IfSome (parent_in n s) (λ p. p < m)) e o.0
in_group n (s ∷ g) i (suc j) o = let e : i + 1 + j ≡ i + suc j = omega arith in subst (λ (m : ℕ). IfSome (get_or (map (parent_in n) g) j None) (λ p. p < m)) e (in_group n g (i + 1) j o.1)

pub before : (n : ℕ) (gs : List Group) → AreClosed n gs → AreBefore n (parents_from n gs)
before n [] c i = tt
before n (g ∷ gs) c i = go (before (n + length g) gs c.1) (split i (length g))
  where
    go : AreBefore (n + length g) (parents_from (n + length g) gs) → (i < length g) ⊎ (length g ≤ i) → IfSome (get_or (parents_from n (g ∷ gs)) i None) (λ p. p < n + i)
    go rest (inl l) =
        subst (λ (o : Option ℕ). IfSome o (λ p. p < n + i)) (sym (get_or-front (map (parent_in n) g) (parents_from (n + length g) gs) i None (omega (arith, length-map (parent_in n) g))))
        (in_group n g n i c.0.ordered)
    go rest (inr l) =
        let m : length (map (parent_in n) g) ≡ length g = length-map (parent_in n) g in
        let e : n + length g + (i - length g) ≡ n + i = omega arith in
        let b = get_or-back (map (parent_in n) g) (parents_from (n + length g) gs) i None (omega arith) ∙ ap (λ (k : ℕ). get_or (parents_from (n + length g) gs) (i - k) None) m in
        subst (λ (o : Option ℕ). IfSome o (λ p. p < n + i)) (sym b) (subst (λ (k : ℕ). IfSome (get_or (parents_from (n + length g) gs) (i - length g) None) (λ p. p < k)) e (rest (i - length g)))

-- ## Depths

stays : (ds : List ℕ) (ps : List (Option ℕ)) (k : ℕ) → k < length ds → get_or (add_depths ds ps) k 0 ≡ get_or ds k 0
stays ds [] k h = refl
stays ds (p ∷ ps) k h =
    stays (ds ++ depth_after ds p ∷ []) ps k (omega (arith, length-append ds (depth_after ds p ∷ []))) ∙ get_or-front ds (depth_after ds p ∷ []) k 0 h

after_stays : (ds : List ℕ) (ps : List (Option ℕ)) (o : Option ℕ) → IfSome o (λ p. p < length ds) → depth_after (add_depths ds ps) o ≡ depth_after ds o
after_stays ds ps None h = refl
after_stays ds ps (Some p) h = ap (λ (d : ℕ). d + 1) (stays ds ps p h)

last_at : (ds : List ℕ) (d : ℕ) → get_or (ds ++ d ∷ []) (length ds) 0 ≡ d
last_at [] d = refl
last_at (e ∷ ds) d = last_at ds d

depth_at : (ds : List ℕ) (ps : List (Option ℕ)) (i : ℕ) → i < length ps → AreBefore (length ds) ps → get_or (add_depths ds ps) (length ds + i) 0 ≡ depth_after (add_depths ds ps) (get_or ps i None)
depth_at ds [] i h b = Prim.absurd (omega arith)
depth_at ds (p ∷ ps) zero h b =
    let d : ℕ = depth_after ds p in
    let l : length (ds ++ d ∷ []) ≡ length ds + 1 = length-append ds (d ∷ []) in
    let z : length ds + 0 ≡ length ds = omega arith in
    let w : IfSome p (λ q. q < length ds) = subst (λ (m : ℕ). IfSome p (λ q. q < m)) z (b 0) in
    ap (λ (k : ℕ). get_or (add_depths (ds ++ d ∷ []) ps) k 0) z ∙
    (stays (ds ++ d ∷ []) ps (length ds) (omega arith) ∙ (last_at ds d ∙ sym (after_stays ds (p ∷ ps) p w)))
depth_at ds (p ∷ ps) (suc i) h b =
    let d : ℕ = depth_after ds p in
    let l : length (ds ++ d ∷ []) ≡ length ds + 1 = length-append ds (d ∷ []) in
    let z : length ds + suc i ≡ length (ds ++ d ∷ []) + i = omega arith in
    let c : AreBefore (length (ds ++ d ∷ [])) ps = λ j. let y : length ds + suc j ≡ length (ds ++ d ∷ []) + j = omega arith in subst (λ (m : ℕ). IfSome (get_or ps j None) (λ q. q < m)) y (b (suc j)) in
    ap (λ (k : ℕ). get_or (add_depths (ds ++ d ∷ []) ps) k 0) z ∙ depth_at (ds ++ d ∷ []) ps i (omega arith) c

zero_sum : (i : ℕ) → 0 + i ≡ i
zero_sum i = omega arith

-- a type is one deeper than its parent
pub depth_law : (gs : List Group) (i : ℕ) → AreClosed 0 gs → i < total gs → get_or (depths_of gs) i 0 ≡ depth_after (depths_of gs) (get_or (parents_from 0 gs) i None)
depth_law gs i c h =
    let l : length (parents_from 0 gs) ≡ total gs = length-parents 0 gs in
    ap (λ (k : ℕ). get_or (depths_of gs) k 0) (sym (zero_sum i)) ∙ depth_at [] (parents_from 0 gs) i (omega arith) (before 0 gs c)

-- ## Climbing

same_fuel : (ps : List (Option ℕ)) → AreBefore 0 ps → (n m a b : ℕ) → a < n → a < m → climbs n ps a b ≡ climbs m ps a b
same_fuel ps f zero m a b h k = Prim.absurd (omega arith)
same_fuel ps f (suc n) zero a b h k = Prim.absurd (omega arith)
same_fuel ps f (suc n) (suc m) a b h k = ap (λ (t : Bool). eqb a b || t) (go (get_or ps a None) (f a) (λ p l. same_fuel ps f n m p b (omega (arith, l)) (omega (arith, l))))
  where
    go : (o : Option ℕ) → IfSome o (λ p. p < 0 + a) → ((p : ℕ) → p < 0 + a → climbs n ps p b ≡ climbs m ps p b) → if_parent o (λ p. climbs n ps p b) ≡ if_parent o (λ p. climbs m ps p b)
    go None l r = refl
    go (Some p) l r = r p l

-- from a type to its parent
pub climb_step : (gs : List Group) (a p b : ℕ) → AreClosed 0 gs → get_or (parents_from 0 gs) a None ≡ Some p → eqb a b ≡ false → is_declared gs a b ≡ is_declared gs p b
unfolding is_declared
climb_step gs a p b c e n =
    let f : IfSome (Some p) (λ q. q < 0 + a) = subst (λ (o : Option ℕ). IfSome o (λ q. q < 0 + a)) e (before 0 gs c a) in
    (λ j. n j || if_parent (e j) (λ q. climbs a (parents_from 0 gs) q b)) ∙ same_fuel (parents_from 0 gs) (before 0 gs c) a (suc p) p b (omega (arith, f)) (omega arith)

pub climb_end : (gs : List Group) (a b : ℕ) → get_or (parents_from 0 gs) a None ≡ None → is_declared gs a b ≡ eqb a b
unfolding is_declared
climb_end gs a b e = ap (λ (o : Option ℕ). eqb a b || if_parent o (λ q. climbs a (parents_from 0 gs) q b)) e ∙ or_false (eqb a b)
  where
    or_false : (t : Bool) → (t || false) ≡ t
    or_false true = refl
    or_false false = refl

deeper : (gs : List Group) → AreClosed 0 gs → (n a b : ℕ) → a < total gs → climbs n (parents_from 0 gs) a b ≡ true → (a ≡ b) ⊎ (get_or (depths_of gs) b 0 < get_or (depths_of gs) a 0)
deeper gs c zero a b h e = cc
deeper gs c (suc n) a b h e = go (eqb a b) refl (get_or (parents_from 0 gs) a None) refl e (before 0 gs c a) (λ p l e. deeper gs c n p b (omega (arith, l)) e)
  where
    go : (t : Bool) → eqb a b ≡ t → (o : Option ℕ) → get_or (parents_from 0 gs) a None ≡ o → (t || if_parent o (λ p. climbs n (parents_from 0 gs) p b)) ≡ true
        → IfSome o (λ p. p < 0 + a) → ((p : ℕ) → p < 0 + a → climbs n (parents_from 0 gs) p b ≡ true → (p ≡ b) ⊎ (get_or (depths_of gs) b 0 < get_or (depths_of gs) p 0))
        → (a ≡ b) ⊎ (get_or (depths_of gs) b 0 < get_or (depths_of gs) a 0)
    go true x o y e f r = inl (eqb-true a b x)
    go false x None y e f r = cc
    go false x (Some p) y e f r =
        let d : get_or (depths_of gs) a 0 ≡ get_or (depths_of gs) p 0 + 1 = depth_law gs a c h ∙ ap (depth_after (depths_of gs)) y in
        elim (r p f e) [
          | inl q ↦ let w : get_or (depths_of gs) p 0 ≡ get_or (depths_of gs) b 0 = ap (λ (k : ℕ). get_or (depths_of gs) k 0) q in inr (omega arith)
          | inr l ↦ inr (omega (arith, l))
        ]

-- no further than the other's depth
pub climb_over : (gs : List Group) (a b : ℕ) → AreClosed 0 gs → a < total gs → get_or (depths_of gs) a 0 ≤ get_or (depths_of gs) b 0 → is_declared gs a b ≡ eqb a b
unfolding is_declared
climb_over gs a b c h l = go (is_declared gs a b) refl (eqb a b) refl
  where
    go : (t : Bool) → is_declared gs a b ≡ t → (u : Bool) → eqb a b ≡ u → t ≡ u
    go true x true y = refl
    go false x false y = refl
    go false x true y = cc (sym x ∙ (ap (λ (v : Bool). v || if_parent (get_or (parents_from 0 gs) a None) (λ p. climbs a (parents_from 0 gs) p b)) y))
    go true x false y = elim (deeper gs c (suc a) a b h x) [ inl q ↦ cc (sym y ∙ eq-eqb a b q) | inr m ↦ Prim.absurd (omega (arith, m)) ]

pub apart_depths : (ds : List ℕ) (a b : ℕ) → get_or ds b 0 < get_or ds a 0 → eqb a b ≡ false
apart_depths ds a b h = go (eqb a b) refl
  where
    go : (t : Bool) → eqb a b ≡ t → t ≡ false
    go false e = refl
    go true e = let q : get_or ds a 0 ≡ get_or ds b 0 = ap (λ (k : ℕ). get_or ds k 0) (eqb-true a b e) in Prim.absurd (omega arith)

-- a type with supertypes above it has one that it declares
pub deep_cause : (gs : List Group) (i : ℕ) (k : ErrorKind) → AreClosed 0 gs → i < total gs → max_supertypes < get_or (depths_of gs) i 0 → k ≡ kind.Limit → Cause (type_checks gs i) k
deep_cause gs i k c h d e = go (get_or (parents_from 0 gs) i None) refl
  where
    deep : nat_lt max_supertypes (get_or (depths_of gs) i 0) ≡ true
    deep = is_below max_supertypes (get_or (depths_of gs) i 0) d

    go : (o : Option ℕ) → get_or (parents_from 0 gs) i None ≡ o → Cause (type_checks gs i) k
    go None p = let z : get_or (depths_of gs) i 0 ≡ 0 = depth_law gs i c h ∙ ap (depth_after (depths_of gs)) p in Prim.absurd (omega (arith, d))
    go (Some p) q = inr (subst (λ (o : Option ℕ). Cause (super_checks gs i o) k) (sym q) (inr (inr (inr (inl (e, deep))))))
