-- Where groups stand in a table.
use Rattle.std.proofs.Common.{◌≡◌, ℕ, ◌+◌, ◌-◌, ◌<◌, ◌≤◌, List, [], ◌∷◌, length, map, get_or, Bool, true, false, cond, ◌⊎◌, inl, inr, Some, None, refl, sym, ◌∙◌, ap, arith, subst}
use Rattle.std.specs.Str.{bytes_eq}
use Rattle.wcv_core.specs.CoreCode.{code_of}
use Rattle.wcv_core.specs.CoreForm.{SubForm, Group}
use Rattle.wcv_core.specs.CoreGroups.{total, types_of, parent_in, parents_from, id_from, IsClosed, AreClosed}
use Rattle.wcv_core.specs.CoreIds.{NamesOlder}
use Rattle.wcv_core.specs.CoreTable.{AreDistinct}
use Rattle.wcv_core.proofs.Finding.{same_group-true}
use Rattle.wcv_core.proofs.Rowing.{length-map, get_or-front, get_or-back, mapped_at, split}
use Rattle.std.proofs.lemmas.Slice.Eq.{bytes_eq-Decides}

-- the group stands in the table, and its first type has the id m; the ids of the table begin at n
abbrev pub StandsAt : ℕ → List Group → ℕ → Group → Type 0
StandsAt n [] m g = ⊥
StandsAt n (x ∷ gs) m g = ((m ≡ n) × (g ≡ x)) ⊎ StandsAt (n + length x) gs m g

-- where a type stands
pub record Place (n : ℕ) (gs : List Group) (i : ℕ) : Type 0 where
  pub first : ℕ
  pub group : Group
  pub position : ℕ
  pub stands : StandsAt n gs first group
  pub is_at : n + i ≡ first + position
  pub within : position < length group

pub place : (n : ℕ) (gs : List Group) (i : ℕ) → i < total gs → Place n gs i
place n [] i h = Prim.absurd (omega arith)
place n (x ∷ gs) i h = go (split i (length x)) (λ l. place (n + length x) gs (i - length x) l)
  where
    go : (i < length x) ⊎ (length x ≤ i) → (i - length x < total gs → Place (n + length x) gs (i - length x)) → Place n (x ∷ gs) i
    go (inl l) f = record { first = n; group = x; position = i; stands = inl (refl, refl); is_at = refl; within = l }
    go (inr l) f =
        let p : Place (n + length x) gs (i - length x) = f (omega arith) in
        let e : n + length x + (i - length x) ≡ p.first + p.position = p.is_at in
        record { first = p.first; group = p.group; position = p.position; stands = inr p.stands; is_at = omega arith; within = p.within }

pub low : (n : ℕ) (gs : List Group) (m : ℕ) (g : Group) → StandsAt n gs m g → n ≤ m
low n [] m g s = elim s [ ]
low n (x ∷ gs) m g (inl p) = let e : m ≡ n = p.0 in omega arith
low n (x ∷ gs) m g (inr s) = omega (arith, low (n + length x) gs m g s)

pub high : (n : ℕ) (gs : List Group) (m : ℕ) (g : Group) → StandsAt n gs m g → m + length g ≤ n + total gs
high n [] m g s = elim s [ ]
high n (x ∷ gs) m g (inl p) = let e : m ≡ n = p.0 in let l : length g ≡ length x = ap (length {A = SubForm}) p.1 in omega arith
high n (x ∷ gs) m g (inr s) = omega (arith, high (n + length x) gs m g s)

pub type_is : (n : ℕ) (gs : List Group) (m : ℕ) (g : Group) (j k : ℕ) (d : SubForm) → StandsAt n gs m g → k < length g → n + j ≡ m + k → get_or (types_of gs) j d ≡ get_or g k d
type_is n [] m g j k d s h e = elim s [ ]
type_is n (x ∷ gs) m g j k d (inl p) h e =
    let q : m ≡ n = p.0 in
    let l : length g ≡ length x = ap (length {A = SubForm}) p.1 in
    let z : j ≡ k = omega arith in
    get_or-front x (types_of gs) j d (omega arith) ∙ λ i. get_or (sym p.1 i) (z i) d
type_is n (x ∷ gs) m g j k d (inr s) h e =
    let l : n + length x ≤ m = low (n + length x) gs m g s in
    get_or-back x (types_of gs) j d (omega arith) ∙ type_is (n + length x) gs m g (j - length x) k d s h (omega arith)

pub parent_is : (n : ℕ) (gs : List Group) (m : ℕ) (g : Group) (j k : ℕ) (d : SubForm) → StandsAt n gs m g → k < length g → n + j ≡ m + k → get_or (parents_from n gs) j None ≡ parent_in m (get_or g k d)
parent_is n [] m g j k d s h e = elim s [ ]
parent_is n (x ∷ gs) m g j k d (inl p) h e =
    let q : m ≡ n = p.0 in
    let l : length g ≡ length x = ap (length {A = SubForm}) p.1 in
    let z : j ≡ k = omega arith in
    let w : length (map (parent_in n) x) ≡ length x = length-map (parent_in n) x in
    get_or-front (map (parent_in n) x) (parents_from (n + length x) gs) j None (omega arith) ∙
    (mapped_at (parent_in n) x j d None (omega arith) ∙ λ i. parent_in (sym q i) (get_or (sym p.1 i) (z i) d))
parent_is n (x ∷ gs) m g j k d (inr s) h e =
    let l : n + length x ≤ m = low (n + length x) gs m g s in
    let w : length (map (parent_in n) x) ≡ length x = length-map (parent_in n) x in
    let z : j - length (map (parent_in n) x) ≡ j - length x = ap (λ (t : ℕ). j - t) w in
    get_or-back (map (parent_in n) x) (parents_from (n + length x) gs) j None (omega arith) ∙
    (ap (λ (t : ℕ). get_or (parents_from (n + length x) gs) t None) z ∙ parent_is (n + length x) gs m g (j - length x) k d s h (omega arith))

pub is_closed : (n : ℕ) (gs : List Group) (m : ℕ) (g : Group) → AreClosed n gs → StandsAt n gs m g → IsClosed m g
is_closed n [] m g c s = elim s [ ]
is_closed n (x ∷ gs) m g c (inl p) =
    let a : m ≡ n = p.0 in
    let b : g ≡ x = p.1 in
    subst (λ (y : Group). IsClosed m y) (sym b) (subst (λ (t : ℕ). IsClosed t x) (sym a) c.0)
is_closed n (x ∷ gs) m g c (inr s) = is_closed (n + length x) gs m g c.1 s

pub names_older : (n : ℕ) (gs : List Group) (m : ℕ) (g : Group) → AreClosed n gs → StandsAt n gs m g → NamesOlder m g
names_older n gs m g c s = (is_closed n gs m g c s).older

-- ## Groups that are found

pub found_stands : (n : ℕ) (gs : List Group) (m : ℕ) (g : Group) → id_from n gs (code_of g) ≡ Some m → StandsAt n gs m g
found_stands n [] m g e = cc
found_stands n (x ∷ gs) m g e = go (bytes_eq (code_of g) (code_of x)) refl e (λ f. found_stands (n + length x) gs m g f)
  where
    go : (b : Bool) → bytes_eq (code_of g) (code_of x) ≡ b → cond b (Some n) (id_from (n + length x) gs (code_of g)) ≡ Some m
        → (id_from (n + length x) gs (code_of g) ≡ Some m → StandsAt (n + length x) gs m g) → StandsAt n (x ∷ gs) m g
    go true p e f = let q : n ≡ m = cc in inl (sym q, same_group-true g x p)
    go false p e f = inr (f e)

bytes_eq-refl : (a : List ℕ) → bytes_eq a a ≡ true
bytes_eq-refl a = grind (arith, bytes_eq-Decides a a)

not_missing : (n t : ℕ) (gs : List Group) (m : ℕ) (g : Group) → StandsAt n gs m g → id_from t gs (code_of g) ≡ None → ⊥
not_missing n t [] m g s e = elim s [ ]
not_missing n t (x ∷ gs) m g (inl p) e =
    let b : bytes_eq (code_of g) (code_of x) ≡ true = ap (λ (y : Group). bytes_eq (code_of g) (code_of y)) (sym p.1) ∙ bytes_eq-refl (code_of g) in
    let q : Some t ≡ None = ap (λ (c : Bool). cond c (Some t) (id_from (t + length x) gs (code_of g))) (sym b) ∙ e in
    cc
not_missing n t (x ∷ gs) m g (inr s) e = go (bytes_eq (code_of g) (code_of x)) e (λ f. not_missing (n + length x) (t + length x) gs m g s f)
  where
    go : (b : Bool) → cond b (Some t) (id_from (t + length x) gs (code_of g)) ≡ None → (id_from (t + length x) gs (code_of g) ≡ None → ⊥) → ⊥
    go true e f = cc
    go false e f = f e

-- no group stands at two places
pub one_place : (n : ℕ) (gs : List Group) (m k : ℕ) (g : Group) → AreDistinct gs → StandsAt n gs m g → StandsAt n gs k g → m ≡ k
one_place n [] m k g d s t = elim s [ ]
one_place n (x ∷ gs) m k g d (inl p) (inl q) = p.0 ∙ sym q.0
one_place n (x ∷ gs) m k g d (inl p) (inr t) = Prim.absurd (not_missing (n + length x) 0 gs k x (subst (λ (y : Group). StandsAt (n + length x) gs k y) p.1 t) d.0)
one_place n (x ∷ gs) m k g d (inr s) (inl q) = Prim.absurd (not_missing (n + length x) 0 gs m x (subst (λ (y : Group). StandsAt (n + length x) gs m y) q.1 s) d.0)
one_place n (x ∷ gs) m k g d (inr s) (inr t) = one_place (n + length x) gs m k g d.1 s t
