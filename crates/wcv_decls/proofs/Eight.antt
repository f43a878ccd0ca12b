-- Eight bytes at a time.
use Rattle.std.proofs.Common.{◌≡◌, ℕ, ◌≤◌, List, [], ◌∷◌, ◌-◌, length, take, drop, get_or, Bool, true, false, cond, refl, ap, sym, subst, ◌∙◌, arith, take_all}
use Rattle.std.specs.Char.{to_ascii_lowercase}
use Rattle.wcv_core.specs.Label.{lower_case}
use Rattle.wcv_core.specs.LabelSet.{mix_step, mixed_from, word}
use Rattle.wcv_decls.specs.LowerWords.{may_follow, slip_of, goes_on}
use Rattle.wcv_decls.proofs.LowerWords.{both}

no_slip : (p b : ℕ) → slip_of p b ≡ 0 → may_follow p b ≡ true
no_slip p b h = go (may_follow p b) (slip_of p b) refl h
  where
    go : (m : Bool) (x : ℕ) → x ≡ cond m 0 1 → x ≡ 0 → m ≡ true
    go true x e z = refl
    go false x e z = absurd (omega (arith, e, z))

word_zero : (a b c d e f g h : ℕ) → word a b c d e f g h ≡ 0 → (a ≡ 0) × (b ≡ 0) × (c ≡ 0) × (d ≡ 0) × (e ≡ 0) × (f ≡ 0) × (g ≡ 0) × (h ≡ 0)
word_zero a b c d e f g h z = (omega (arith, z), omega (arith, z), omega (arith, z), omega (arith, z), omega (arith, z), omega (arith, z), omega (arith, z), omega (arith, z))

follow : (p b : ℕ) (bs : List ℕ) → slip_of p b ≡ 0 → goes_on b bs ≡ true → goes_on p (b ∷ bs) ≡ true
follow p b bs s h = both _ _ (no_slip p b s) h

pub eight_follow : (p z : ℕ) (bs : List ℕ) → 8 ≤ length bs
    → z ≡ word (slip_of p (get_or bs 0 0)) (slip_of (get_or bs 0 0) (get_or bs 1 0)) (slip_of (get_or bs 1 0) (get_or bs 2 0)) (slip_of (get_or bs 2 0) (get_or bs 3 0)) (slip_of (get_or bs 3 0) (get_or bs 4 0)) (slip_of (get_or bs 4 0) (get_or bs 5 0)) (slip_of (get_or bs 5 0) (get_or bs 6 0)) (slip_of (get_or bs 6 0) (get_or bs 7 0))
    → z ≡ 0 → goes_on (get_or bs 7 0) (take (length bs - 8) (drop 8 bs)) ≡ true → goes_on p bs ≡ true
eight_follow p z [] l w n k = absurd (omega arith)
eight_follow p z (a ∷ []) l w n k = absurd (omega arith)
eight_follow p z (a ∷ b ∷ []) l w n k = absurd (omega arith)
eight_follow p z (a ∷ b ∷ c ∷ []) l w n k = absurd (omega arith)
eight_follow p z (a ∷ b ∷ c ∷ d ∷ []) l w n k = absurd (omega arith)
eight_follow p z (a ∷ b ∷ c ∷ d ∷ e ∷ []) l w n k = absurd (omega arith)
eight_follow p z (a ∷ b ∷ c ∷ d ∷ e ∷ f ∷ []) l w n k = absurd (omega arith)
eight_follow p z (a ∷ b ∷ c ∷ d ∷ e ∷ f ∷ g ∷ []) l w n k = absurd (omega arith)
eight_follow p z (a ∷ b ∷ c ∷ d ∷ e ∷ f ∷ g ∷ h ∷ bs) l w n k =
    let all : take (length (a ∷ b ∷ c ∷ d ∷ e ∷ f ∷ g ∷ h ∷ bs) - 8) bs ≡ bs = take_all (length (a ∷ b ∷ c ∷ d ∷ e ∷ f ∷ g ∷ h ∷ bs) - 8) bs (omega arith) in
    let s = word_zero (slip_of p a) (slip_of a b) (slip_of b c) (slip_of c d) (slip_of d e) (slip_of e f) (slip_of f g) (slip_of g h) (sym w ∙ n) in
    let r : goes_on h bs ≡ true = subst (λ (xs : List ℕ). goes_on h xs ≡ true) all k in
    follow p a (b ∷ c ∷ d ∷ e ∷ f ∷ g ∷ h ∷ bs) s.0 (follow a b (c ∷ d ∷ e ∷ f ∷ g ∷ h ∷ bs) s.1 (follow b c (d ∷ e ∷ f ∷ g ∷ h ∷ bs) s.2 (follow c d (e ∷ f ∷ g ∷ h ∷ bs) s.3
    (follow d e (f ∷ g ∷ h ∷ bs) s.4 (follow e f (g ∷ h ∷ bs) s.5 (follow f g (h ∷ bs) s.6 (follow g h bs s.7 r)))))))

pub eight_lower : (n m part : ℕ) (bs : List ℕ) → 8 ≤ length bs
    → part ≡ word (to_ascii_lowercase (get_or bs 0 0)) (to_ascii_lowercase (get_or bs 1 0)) (to_ascii_lowercase (get_or bs 2 0)) (to_ascii_lowercase (get_or bs 3 0)) (to_ascii_lowercase (get_or bs 4 0)) (to_ascii_lowercase (get_or bs 5 0)) (to_ascii_lowercase (get_or bs 6 0)) (to_ascii_lowercase (get_or bs 7 0))
    → m ≡ mix_step n part → mixed_from m (lower_case (take (length bs - 8) (drop 8 bs))) ≡ mixed_from n (lower_case bs)
eight_lower n m part [] l p q = absurd (omega arith)
eight_lower n m part (a ∷ []) l p q = absurd (omega arith)
eight_lower n m part (a ∷ b ∷ []) l p q = absurd (omega arith)
eight_lower n m part (a ∷ b ∷ c ∷ []) l p q = absurd (omega arith)
eight_lower n m part (a ∷ b ∷ c ∷ d ∷ []) l p q = absurd (omega arith)
eight_lower n m part (a ∷ b ∷ c ∷ d ∷ e ∷ []) l p q = absurd (omega arith)
eight_lower n m part (a ∷ b ∷ c ∷ d ∷ e ∷ f ∷ []) l p q = absurd (omega arith)
eight_lower n m part (a ∷ b ∷ c ∷ d ∷ e ∷ f ∷ g ∷ []) l p q = absurd (omega arith)
eight_lower n m part (a ∷ b ∷ c ∷ d ∷ e ∷ f ∷ g ∷ h ∷ bs) l p q =
    let all : take (length (a ∷ b ∷ c ∷ d ∷ e ∷ f ∷ g ∷ h ∷ bs) - 8) bs ≡ bs = take_all (length (a ∷ b ∷ c ∷ d ∷ e ∷ f ∷ g ∷ h ∷ bs) - 8) bs (omega arith) in
    ap (λ (xs : List ℕ). mixed_from m (lower_case xs)) all ∙ ap (λ (x : ℕ). mixed_from x (lower_case bs)) (q ∙ ap (mix_step n) p)
