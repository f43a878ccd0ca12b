-- What the table has once a group is interned.
use Rattle.std.proofs.Common.{◌≡◌, ℕ, ◌+◌, ◌-◌, ◌<◌, ◌≤◌, List, [], ◌∷◌, ◌++◌, length, get_or, Bool, true, false, cond, Option, Some, None, refl, sym, ◌∙◌, ap, arith, append_assoc, length-append}
use Rattle.std.specs.Option.{unwrap_or}
use Rattle.std.specs.Str.{bytes_eq}
use Rattle.wcv_core.specs.CoreCode.{code_of}
use Rattle.wcv_core.specs.CoreForm.{SubForm, Group, no_type}
use Rattle.wcv_core.specs.CoreGroups.{total, types_of, id_from, id_of, AreClosed}
use Rattle.wcv_core.specs.CoreJoining.{first_id}
use Rattle.wcv_core.specs.CoreMatching.{type_at}
use Rattle.wcv_core.specs.CoreTable.{joined_to, with_group}
use Rattle.wcv_core.proofs.Finding.{same_group-true, found_last, found_stays}
use Rattle.wcv_core.proofs.Rowing.{get_or-front, get_or-back}

-- ## Ids

pub one_id : (gs : List Group) (g h : Group) (i j : ℕ) → g ≡ h → id_of gs g ≡ Some i → id_of gs h ≡ Some j → i ≡ j
one_id gs g h i j e a b = let q : Some i ≡ Some j = sym a ∙ (ap (id_of gs) e ∙ b) in cc

found_low : (n i : ℕ) (gs : List Group) (c : List ℕ) → id_from n gs c ≡ Some i → n ≤ i
found_low n i [] c e = cc
found_low n i (g ∷ gs) c e = go (bytes_eq c (code_of g)) e (found_low (n + length g) i gs c)
  where
    go : (b : Bool) → cond b (Some n) (id_from (n + length g) gs c) ≡ Some i → (id_from (n + length g) gs c ≡ Some i → n + length g ≤ i) → n ≤ i
    go true e f = let q : n ≡ i = cc in omega arith
    go false e f = omega (arith, f e)

common : (n : ℕ) (gs : List Group) (g h : Group) (i j : ℕ) → AreClosed n gs → id_from n gs (code_of g) ≡ Some i → id_from n gs (code_of h) ≡ Some j → i ≤ j → j < i + length g → g ≡ h
common n [] g h i j c a b l r = cc
common n (x ∷ gs) g h i j c a b l r = go (bytes_eq (code_of g) (code_of x)) refl (bytes_eq (code_of h) (code_of x)) refl a b (λ p q. common (n + length x) gs g h i j c.1 p q l r)
  where
    go : (s : Bool) → bytes_eq (code_of g) (code_of x) ≡ s → (t : Bool) → bytes_eq (code_of h) (code_of x) ≡ t
        → cond s (Some n) (id_from (n + length x) gs (code_of g)) ≡ Some i → cond t (Some n) (id_from (n + length x) gs (code_of h)) ≡ Some j
        → (id_from (n + length x) gs (code_of g) ≡ Some i → id_from (n + length x) gs (code_of h) ≡ Some j → g ≡ h) → g ≡ h
    go true p true q a b f = same_group-true g x p ∙ sym (same_group-true h x q)
    go true p false q a b f =
        let k : n ≡ i = cc in
        let m : length g ≡ length x = ap (length {A = SubForm}) (same_group-true g x p) in
        Prim.absurd (omega (arith, r, found_low (n + length x) j gs (code_of h) b))
    go false p true q a b f =
        let k : n ≡ j = cc in
        Prim.absurd (omega (arith, l, c.0.some, found_low (n + length x) i gs (code_of g) a))
    go false p false q a b f = f a b

pub common_id : (gs : List Group) (g h : Group) (i j : ℕ) → AreClosed 0 gs → id_of gs g ≡ Some i → id_of gs h ≡ Some j → i ≤ j → j < i + length g → (g ≡ h) × (i ≡ j)
common_id gs g h i j c a b l r = let e : g ≡ h = common 0 gs g h i j c a b l r in (e, one_id gs g h i j e a b)

-- ## One more group

pub interned : (gs : List Group) (g : Group) → id_of (with_group gs g) g ≡ Some (first_id gs g)
interned gs g = go (id_of gs g) refl
  where
    go : (o : Option ℕ) → id_of gs g ≡ o → id_of (joined_to o gs g) g ≡ Some (unwrap_or o (total gs))
    go None e = found_last gs g e
    go (Some i) e = e

pub again : (gs : List Group) (g : Group) → with_group (with_group gs g) g ≡ with_group gs g
again gs g = ap (λ (o : Option ℕ). joined_to o (with_group gs g) g) (interned gs g)

pub kept : (gs : List Group) (g h : Group) (i : ℕ) → id_of gs h ≡ Some i → id_of (with_group gs g) h ≡ Some i
kept gs g h i e = go (id_of gs g)
  where
    go : (o : Option ℕ) → id_of (joined_to o gs g) h ≡ Some i
    go None = found_stays 0 gs g (code_of h) i e
    go (Some j) = e

-- ## Types

append_none : {A : Type 0} (xs : List A) → xs ++ [] ≡ xs
append_none [] = refl
append_none (x ∷ xs) = λ j. x ∷ append_none xs j

types-append : (gs : List Group) (g : Group) → types_of (gs ++ g ∷ []) ≡ types_of gs ++ g
types-append [] g = append_none g
types-append (h ∷ gs) g = ap (λ (ts : List SubForm). h ++ ts) (types-append gs g) ∙ sym (append_assoc h (types_of gs) g)

length-types : (gs : List Group) → length (types_of gs) ≡ total gs
length-types [] = refl
length-types (g ∷ gs) = length-append g (types_of gs) ∙ ap (λ (n : ℕ). length g + n) (length-types gs)

pub types_kept : (gs : List Group) (g : Group) (i : ℕ) → i < total gs → type_at (with_group gs g) i ≡ type_at gs i
types_kept gs g i h = go (id_of gs g)
  where
    go : (o : Option ℕ) → type_at (joined_to o gs g) i ≡ type_at gs i
    go None = ap (λ (ts : List SubForm). get_or ts i no_type) (types-append gs g) ∙ get_or-front (types_of gs) g i no_type (omega (arith, length-types gs))
    go (Some j) = refl

found_types : (n : ℕ) (gs : List Group) (g : Group) (i k m : ℕ) → id_from n gs (code_of g) ≡ Some i → k < length g → n + m ≡ i + k → get_or (types_of gs) m no_type ≡ get_or g k no_type
found_types n [] g i k m e h s = cc
found_types n (x ∷ gs) g i k m e h s = go (bytes_eq (code_of g) (code_of x)) refl e (λ f. found_types (n + length x) gs g i k (m - length x) f h)
  where
    go : (b : Bool) → bytes_eq (code_of g) (code_of x) ≡ b → cond b (Some n) (id_from (n + length x) gs (code_of g)) ≡ Some i
        → (id_from (n + length x) gs (code_of g) ≡ Some i → n + length x + (m - length x) ≡ i + k → get_or (types_of gs) (m - length x) no_type ≡ get_or g k no_type)
        → get_or (types_of (x ∷ gs)) m no_type ≡ get_or g k no_type
    go true p e f =
        let q : n ≡ i = cc in
        let z : m ≡ k = omega (arith, s) in
        let y : g ≡ x = same_group-true g x p in
        let l : length g ≡ length x = ap (length {A = SubForm}) y in
        get_or-front x (types_of gs) m no_type (omega (arith, h)) ∙ λ j. get_or (sym y j) (z j) no_type
    go false p e f =
        let l : n + length x ≤ i = found_low (n + length x) i gs (code_of g) e in
        get_or-back x (types_of gs) m no_type (omega (arith, s, l)) ∙ f e (omega (arith, s, l))

pub stand : (gs : List Group) (g : Group) (i k : ℕ) → id_of gs g ≡ Some i → k < length g → type_at gs (i + k) ≡ get_or g k no_type
stand gs g i k e h = found_types 0 gs g i k (i + k) e h (omega arith)
