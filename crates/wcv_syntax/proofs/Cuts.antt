-- Texts behind marks, and around bytes.
use Rattle.std.proofs.Common.{◌≡◌, ◌≢◌, ℕ, suc, ◌<◌, [], ◌∷◌, ◌++◌, length, get_or, Bool, true, false, cond, eqb, ◌||◌, Option, Some, None, IfSome, MatchOption, option_map, option_copied, Bor, refl, sym, ap, ◌∙◌, arith, eqb-true, eq-eqb, ne_eqb}
use Rattle.std.specs.List.{list_any}
use Rattle.std.specs.Str.Pattern.{FindsTextPrefix, StripsPrefix}
use Rattle.std.proofs.lemmas.Str.Pattern.{IsSplitOnceResult, split_parts}
use Rattle.wcv_syntax.specs.ExternName.{Text, joined}
use Rattle.wcv_syntax.specs.FormOf.{behind, around, put_before}
use Rattle.wcv_syntax.specs.NameViews.{parts_view}

-- ## Behind a mark

pub behind-sound : (m t u : Text) → behind m t ≡ Some u → t ≡ m ++ u
behind-sound [] t u h = cc
behind-sound (b ∷ bs) [] u h = cc
behind-sound (b ∷ bs) (c ∷ cs) u h = go (eqb c b) refl h (behind-sound bs cs u)
  where
    go : (x : Bool) → eqb c b ≡ x → cond x (behind bs cs) None ≡ Some u → (behind bs cs ≡ Some u → cs ≡ bs ++ u) → c ∷ cs ≡ b ∷ (bs ++ u)
    go true e k ih = let f = eqb-true c b e in let g = ih k in (λ i. f i ∷ g i)
    go false e k ih = cc

pub behind-complete : (m u : Text) → behind m (m ++ u) ≡ Some u
behind-complete [] u = refl
behind-complete (b ∷ bs) u = ap (λ (x : Bool). cond x (behind bs (bs ++ u)) None) (eq-eqb b b refl) ∙ behind-complete bs u

-- what `strip_prefix` gives
pub strips : (m t : Text) (r : Option (Bor Text)) → MatchOption r (FindsTextPrefix m t None) (λ x. StripsPrefix (FindsTextPrefix m) t x.now) → option_copied r ≡ behind m t
strips m t (Some x) h =
    let e : t ≡ m ++ x.now = h.1.1 ∙ ap (λ (u : Text). m ++ u) (sym h.2) in
    sym (behind-complete m x.now) ∙ ap (behind m) (sym e)
strips m t None h = go (behind m t) refl
  where
    go : (o : Option Text) → behind m t ≡ o → None ≡ o
    go None e = refl
    go (Some u) e = absurd (h u (behind-sound m t u e))

-- ## Around a byte

pub around-sound : (b : ℕ) (t : Text) (p : Text × Text) → around b t ≡ Some p → t ≡ p.0 ++ b ∷ p.1
around-sound b [] p h = cc
around-sound b (c ∷ cs) p h = go (eqb c b) refl h (around b cs) refl (around-sound b cs)
  where
    later : (q : Text × Text) → put_before c q ≡ p → cs ≡ q.0 ++ b ∷ q.1 → c ∷ cs ≡ p.0 ++ b ∷ p.1
    later q e f = ap (λ (x : Text). c ∷ x) f ∙ ap (λ (r : Text × Text). r.0 ++ b ∷ r.1) e

    first : ([], cs) ≡ p → c ≡ b → c ∷ cs ≡ p.0 ++ b ∷ p.1
    first e f = ap (λ (x : ℕ). x ∷ cs) f ∙ ap (λ (r : Text × Text). r.0 ++ b ∷ r.1) e

    some : {X : Type 0} {x y : X} → Some x ≡ Some y → x ≡ y
    some e = cc e

    go : (x : Bool) → eqb c b ≡ x → cond x (Some ([], cs)) (option_map (put_before c) (around b cs)) ≡ Some p → (o : Option (Text × Text)) → around b cs ≡ o → ((q : Text × Text) → around b cs ≡ Some q → cs ≡ q.0 ++ b ∷ q.1) → c ∷ cs ≡ p.0 ++ b ∷ p.1
    go true e k o f ih = first (some k) (eqb-true c b e)
    go false e k None f ih = let g : None ≡ Some p = ap (option_map (put_before c)) (sym f) ∙ k in cc g
    go false e k (Some q) f ih = let g : Some (put_before c q) ≡ Some p = ap (option_map (put_before c)) (sym f) ∙ k in later q (some g) (ih q f)

-- the byte stands not in the text
abbrev pub lacks : ℕ → Text → Bool
lacks b t = list_any (λ c. eqb c b) t

or_false : (x y : Bool) → (x || y) ≡ false → (x ≡ false) × (y ≡ false)
or_false false y h = (refl, h)
or_false true y h = cc h

pub around-complete : (b : ℕ) (x y : Text) → lacks b x ≡ false → around b (x ++ b ∷ y) ≡ Some (x, y)
around-complete b [] y h = ap (λ (t : Bool). cond t (Some ([], y)) (option_map (put_before b) (around b y))) (eq-eqb b b refl)
around-complete b (c ∷ x) y h =
    let k = or_false (eqb c b) (lacks b x) h in
    ap (λ (t : Bool). cond t (Some ([], x ++ b ∷ y)) (option_map (put_before c) (around b (x ++ b ∷ y)))) k.0 ∙ ap (option_map (put_before c)) (around-complete b x y k.1)

pub around-none : (b : ℕ) (t : Text) → lacks b t ≡ false → around b t ≡ None
around-none b [] h = refl
around-none b (c ∷ t) h =
    let k = or_false (eqb c b) (lacks b t) h in
    ap (λ (x : Bool). cond x (Some ([], t)) (option_map (put_before c) (around b t))) k.0 ∙ ap (option_map (put_before c)) (around-none b t k.1)

-- so of each of its bytes
pub lacks-each : (b : ℕ) (t : Text) → ((i : ℕ) → i < length t → get_or t i 0 ≢ b) → lacks b t ≡ false
lacks-each b [] h = refl
lacks-each b (c ∷ t) h = ap (λ (x : Bool). x || lacks b t) (ne_eqb c b (h 0 (omega arith))) ∙ lacks-each b t (λ i l. h (suc i) (omega arith))

-- what `split_once` gives
pub splits : (b : ℕ) (t : Text) (r : Option (Bor Text × Bor Text)) → b < 128 → IsSplitOnceResult b t r → parts_view r ≡ around b t
splits b t None low h = sym (around-none b t (lacks-each b t (split_parts b t None h low)))
splits b t (Some x) low h =
    let k = split_parts b t (Some x) h low in
    sym (around-complete b x.0.now x.1.now (lacks-each b x.0.now k.1)) ∙ ap (around b) (sym k.0)

pub splits-whole : (b : ℕ) (t : Text) (r : Option (Bor Text × Bor Text)) → b < 128 → IsSplitOnceResult b t r → IfSome r (λ x. t ≡ joined b x.0.now x.1.now)
splits-whole b t None low h = tt
splits-whole b t (Some x) low h = (split_parts b t (Some x) h low).0
