-- The number that bytes give, eight at a time.
use Rattle.std.proofs.Common.{◌≡◌, ℕ, ◌<◌, ◌≤◌, List, [], ◌∷◌, ◌-◌, length, take, drop, get_or, refl, ap, ◌∙◌, arith, take_all}
use Rattle.std.specs.List.{fold}
use Rattle.wcv_core.specs.LabelSet.{mix_step, mixed_from, word}

-- fewer than eight
pub few_left : (n : ℕ) (bs : List ℕ) → length bs < 8 → mixed_from n bs ≡ fold mix_step n bs
few_left n [] l = refl
few_left n (a ∷ []) l = refl
few_left n (a ∷ b ∷ []) l = refl
few_left n (a ∷ b ∷ c ∷ []) l = refl
few_left n (a ∷ b ∷ c ∷ d ∷ []) l = refl
few_left n (a ∷ b ∷ c ∷ d ∷ e ∷ []) l = refl
few_left n (a ∷ b ∷ c ∷ d ∷ e ∷ f ∷ []) l = refl
few_left n (a ∷ b ∷ c ∷ d ∷ e ∷ f ∷ g ∷ []) l = refl
few_left n (a ∷ b ∷ c ∷ d ∷ e ∷ f ∷ g ∷ h ∷ bs) l = absurd (omega arith)

-- eight bytes, and the rest
pub eight_more : (n m part : ℕ) (bs : List ℕ) → 8 ≤ length bs
    → part ≡ word (get_or bs 0 0) (get_or bs 1 0) (get_or bs 2 0) (get_or bs 3 0) (get_or bs 4 0) (get_or bs 5 0) (get_or bs 6 0) (get_or bs 7 0)
    → m ≡ mix_step n part → mixed_from m (take (length bs - 8) (drop 8 bs)) ≡ mixed_from n bs
eight_more n m part [] l p e = absurd (omega arith)
eight_more n m part (a ∷ []) l p e = absurd (omega arith)
eight_more n m part (a ∷ b ∷ []) l p e = absurd (omega arith)
eight_more n m part (a ∷ b ∷ c ∷ []) l p e = absurd (omega arith)
eight_more n m part (a ∷ b ∷ c ∷ d ∷ []) l p e = absurd (omega arith)
eight_more n m part (a ∷ b ∷ c ∷ d ∷ w ∷ []) l p e = absurd (omega arith)
eight_more n m part (a ∷ b ∷ c ∷ d ∷ w ∷ f ∷ []) l p e = absurd (omega arith)
eight_more n m part (a ∷ b ∷ c ∷ d ∷ w ∷ f ∷ g ∷ []) l p e = absurd (omega arith)
eight_more n m part (a ∷ b ∷ c ∷ d ∷ w ∷ f ∷ g ∷ h ∷ bs) l p e =
    let all : take (length (a ∷ b ∷ c ∷ d ∷ w ∷ f ∷ g ∷ h ∷ bs) - 8) bs ≡ bs = take_all (length (a ∷ b ∷ c ∷ d ∷ w ∷ f ∷ g ∷ h ∷ bs) - 8) bs (omega arith) in
    ap (mixed_from m) all ∙ ap (λ (x : ℕ). mixed_from x bs) (e ∙ ap (mix_step n) p)
