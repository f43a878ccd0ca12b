-- The groups that core types stand in.
use Rattle.std.proofs.Common.{◌≡◌, ℕ, ◌+◌, ◌-◌, ◌<◌, ◌≤◌, List, [], ◌∷◌, length, take, drop, get_or, cond, nat_lt, Bool, true, false, refl, sym, ◌∙◌, ap, subst, arith}
use Rattle.std.proofs.lemmas.Grind.{common_steps}
use Rattle.std.proofs.lemmas.List.{get_or-take, get_or-drop, length-append, length-drop, length-take-le}
use Rattle.wcv_core.specs.CoreForm.{SubForm, Group}
use Rattle.wcv_core.specs.CoreGroups.{place_from, total, types_of}
use Rattle.wcv_types.specs.CoreText.{group_at}

place_past : (n : ℕ) (gs : List Group) (i : ℕ) → n + total gs ≤ i → place_from n gs i ≡ (n + total gs, 0)
place_past n [] i h = ap (λ (m : ℕ). (m, 0)) (omega arith)
place_past n (g ∷ gs) i h =
    let none : nat_lt i (n + length g) ≡ false = grind (arith, common_steps) in
    let sum : (n + length g) + total gs ≡ n + total (g ∷ gs) = omega arith in
    ap (λ (b : Bool). cond b (n, length g) (place_from (n + length g) gs i)) none ∙ place_past (n + length g) gs i (omega (arith, h, sum)) ∙ ap (λ (m : ℕ). (m, 0)) sum

-- there is none past the end
pub past_the_end : (gs : List Group) (i : ℕ) → total gs ≤ i → place_from 0 gs i ≡ (total gs, 0)
past_the_end gs i h = place_past 0 gs i (omega (arith, h)) ∙ ap (λ (m : ℕ). (m, 0)) (omega arith)

within_from : (n : ℕ) (gs : List Group) (i : ℕ) → (place_from n gs i).0 + (place_from n gs i).1 ≤ n + total gs
within_from n [] i = omega arith
within_from n (g ∷ gs) i = go (nat_lt i (n + length g)) (within_from (n + length g) gs i)
  where
    go : (b : Bool) → (place_from (n + length g) gs i).0 + (place_from (n + length g) gs i).1 ≤ (n + length g) + total gs →
        (cond b (n, length g) (place_from (n + length g) gs i)).0 + (cond b (n, length g) (place_from (n + length g) gs i)).1 ≤ n + (length g + total gs)
    go true later = omega arith
    go false later = omega (arith, later)

-- no group goes past the end
pub place_within : (gs : List Group) (i first len : ℕ) → (first, len) ≡ place_from 0 gs i → first + len ≤ total gs
place_within gs i first len p = let all : (place_from 0 gs i).0 + (place_from 0 gs i).1 ≤ 0 + total gs = within_from 0 gs i in subst (λ (q : ℕ × ℕ). q.0 + q.1 ≤ total gs) (sym p) (omega (arith, all))

types_length : (gs : List Group) → length (types_of gs) ≡ total gs
types_length [] = refl
types_length (g ∷ gs) = length-append g (types_of gs) ∙ ap (λ (n : ℕ). length g + n) (types_length gs)

-- the types of a group, by where it begins and how long it is
group_is : (gs : List Group) (i first len : ℕ) → (first, len) ≡ place_from 0 gs i → group_at gs i ≡ take len (drop first (types_of gs))
group_is gs i first len p = sym (ap (λ (q : ℕ × ℕ). take q.1 (drop q.0 (types_of gs))) p)

pub group_length : (gs : List Group) (i first len : ℕ) → (first, len) ≡ place_from 0 gs i → length (group_at gs i) ≡ len
group_length gs i first len p =
    let rest : length (drop first (types_of gs)) ≡ total gs - first = length-drop first (types_of gs) ∙ ap (λ (n : ℕ). n - first) (types_length gs) in
    let within : first + len ≤ total gs = place_within gs i first len p in
    ap length (group_is gs i first len p) ∙ length-take-le len (drop first (types_of gs)) (omega (arith, rest, within))

pub group_get : (gs : List Group) (i first len k : ℕ) (d : SubForm) → (first, len) ≡ place_from 0 gs i → k < len → get_or (types_of gs) (first + k) d ≡ get_or (group_at gs i) k d
group_get gs i first len k d p h =
    sym (get_or-drop first (types_of gs) k d) ∙ sym (get_or-take len (drop first (types_of gs)) k d h) ∙ sym (ap (λ (g : Group). get_or g k d) (group_is gs i first len p))
