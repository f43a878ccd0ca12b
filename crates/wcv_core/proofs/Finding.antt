-- Where a group is found, once there is one more.
use Rattle.std.proofs.Common.{◌≡◌, ℕ, ◌+◌, ◌≤◌, List, [], ◌∷◌, ◌++◌, length, Bool, true, false, cond, Option, Some, None, refl, sym, ◌∙◌, ap, arith, Vec, zero-add}
use Rattle.std.specs.BTreeMap.{BTreeMap, get, Updates}
use Rattle.std.specs.Ordering.{is_eq}
use Rattle.std.specs.Str.{bytes_eq}
use Rattle.std.specs.declared.alloc.Global.{Global}
use Rattle.std.proofs.lemmas.Map.Text.{is_eq-slice_cmp}
use Rattle.std.proofs.lemmas.Slice.Eq.{bytes_eq-Decides}
use Rattle.wcv_core.proofs.Among.{bytes_eq-sym, same_bytes}
use Rattle.wcv_core.specs.CoreForm.{Group}
use Rattle.wcv_core.specs.CoreCode.{code_of}
use Rattle.wcv_core.specs.CoreGroups.{total, same_group, id_from, id_of, AreClosed}
use Rattle.wcv_core.specs.CoreTable.{AreDistinct, code_order, AreCoded}
use Rattle.wcv_core.proofs.Reading.{code_of-same}

bytes_eq-refl : (a : List ℕ) → bytes_eq a a ≡ true
bytes_eq-refl a = grind (arith, bytes_eq-Decides a a)

-- the test answers equality of closed forms
pub same_group-true : (g h : Group) → same_group g h ≡ true → g ≡ h
same_group-true g h e = code_of-same g h (same_bytes (code_of g) (code_of h) e)

pub found_stays : (n : ℕ) (gs : List Group) (g : Group) (c : List ℕ) (i : ℕ) → id_from n gs c ≡ Some i → id_from n (gs ++ g ∷ []) c ≡ Some i
found_stays n [] g c i e = cc
found_stays n (h ∷ gs) g c i e = go (bytes_eq c (code_of h)) e (found_stays (n + length h) gs g c i)
  where
    go : (b : Bool) → cond b (Some n) (id_from (n + length h) gs c) ≡ Some i → (id_from (n + length h) gs c ≡ Some i → id_from (n + length h) (gs ++ g ∷ []) c ≡ Some i) → cond b (Some n) (id_from (n + length h) (gs ++ g ∷ []) c) ≡ Some i
    go true e f = e
    go false e f = f e

pub found_new : (n : ℕ) (gs : List Group) (g : Group) (c : List ℕ) → id_from n gs c ≡ None → id_from n (gs ++ g ∷ []) c ≡ cond (bytes_eq c (code_of g)) (Some (n + total gs)) None
found_new n [] g c e = let z : n ≡ n + 0 = omega arith in ap (λ (m : ℕ). cond (bytes_eq c (code_of g)) (Some m) None) z
found_new n (h ∷ gs) g c e = go (bytes_eq c (code_of h)) e (found_new (n + length h) gs g c)
  where
    go : (b : Bool) → cond b (Some n) (id_from (n + length h) gs c) ≡ None → (id_from (n + length h) gs c ≡ None → id_from (n + length h) (gs ++ g ∷ []) c ≡ cond (bytes_eq c (code_of g)) (Some (n + length h + total gs)) None)
        → cond b (Some n) (id_from (n + length h) (gs ++ g ∷ []) c) ≡ cond (bytes_eq c (code_of g)) (Some (n + (length h + total gs))) None
    go true e f = cc
    go false e f = let z : n + length h + total gs ≡ n + (length h + total gs) = omega arith in f e ∙ ap (λ (m : ℕ). cond (bytes_eq c (code_of g)) (Some m) None) z

none_anywhere : (n m : ℕ) (gs : List Group) (c : List ℕ) → id_from n gs c ≡ None → id_from m gs c ≡ None
none_anywhere n m [] c e = refl
none_anywhere n m (h ∷ gs) c e = go (bytes_eq c (code_of h)) e (none_anywhere (n + length h) (m + length h) gs c)
  where
    go : (b : Bool) → cond b (Some n) (id_from (n + length h) gs c) ≡ None → (id_from (n + length h) gs c ≡ None → id_from (m + length h) gs c ≡ None) → cond b (Some m) (id_from (m + length h) gs c) ≡ None
    go true e f = cc
    go false e f = f e

-- the group that was not there stands at the end
pub found_last : (gs : List Group) (g : Group) → id_of gs g ≡ None → id_of (gs ++ g ∷ []) g ≡ Some (total gs)
found_last gs g e = found_new 0 gs g (code_of g) e ∙ (ap (λ (b : Bool). cond b (Some (0 + total gs)) None) (bytes_eq-refl (code_of g)) ∙ ap Some (zero-add (total gs)))

first_apart : (b : Bool) (n : ℕ) (o : Option ℕ) → cond b (Some n) o ≡ None → (b ≡ false) × (o ≡ None)
first_apart true n o e = cc
first_apart false n o e = (refl, e)

pub distinct-append : (gs : List Group) (g : Group) → id_of gs g ≡ None → AreDistinct gs → AreDistinct (gs ++ g ∷ [])
distinct-append [] g e d = (refl, tt)
distinct-append (h ∷ gs) g e d =
    let p = first_apart (bytes_eq (code_of g) (code_of h)) 0 (id_from (0 + length h) gs (code_of g)) e in
    let here : id_of (gs ++ g ∷ []) h ≡ None =
    found_new 0 gs g (code_of h) d.0 ∙ ap (λ (b : Bool). cond b (Some (0 + total gs)) None) (bytes_eq-sym (code_of h) (code_of g) ∙ p.0) in
    (here, distinct-append gs g (none_anywhere (0 + length h) 0 gs (code_of g) p.1) d.1)

-- what the map answers, once it has the new code
pub coded-append : (gs : List Group) (m m' : BTreeMap (Vec ℕ Global) ℕ) (g : Group) (code : Vec ℕ Global) (first : ℕ) → AreCoded gs m → code.items ≡ code_of g → first ≡ total gs
    → id_of gs g ≡ None → Updates code_order m m' code (Some first) → AreCoded (gs ++ g ∷ []) m'
coded-append gs m m' g code first a e f none u = record {
  coded = λ k. u.0 k ∙ go k (bytes_eq code.items k.items) refl;
  distinct = distinct-append gs g none a.distinct;
}
  where
    old_case : (c : List ℕ) → bytes_eq c (code_of g) ≡ false → (o : Option ℕ) → id_from 0 gs c ≡ o → o ≡ id_from 0 (gs ++ g ∷ []) c
    old_case c x None y = sym (found_new 0 gs g c y ∙ ap (λ (b : Bool). cond b (Some (0 + total gs)) None) x)
    old_case c x (Some i) y = sym (found_stays 0 gs g c i y)

    go : (k : Vec ℕ Global) → (b : Bool) → bytes_eq code.items k.items ≡ b
        → cond (is_eq (code_order code k)) (Some first) (get code_order m k) ≡ id_from 0 (gs ++ g ∷ []) k.items
    go k true x =
        let y : k.items ≡ code_of g = sym (same_bytes code.items k.items x) ∙ e in
        ap (λ (b : Bool). cond b (Some first) (get code_order m k)) (is_eq-slice_cmp code.items k.items ∙ x) ∙
        (ap Some f ∙ (sym (found_last gs g none) ∙ ap (id_from 0 (gs ++ g ∷ [])) (sym y)))
    go k false x =
        let y : bytes_eq k.items (code_of g) ≡ false = ap (bytes_eq k.items) (sym e) ∙ (bytes_eq-sym k.items code.items ∙ x) in
        ap (λ (b : Bool). cond b (Some first) (get code_order m k)) (is_eq-slice_cmp code.items k.items ∙ x) ∙
        (a.coded k ∙ old_case k.items y (id_from 0 gs k.items) refl)

-- ## Ids tell closed forms apart

id_at : (n i : ℕ) (gs : List Group) (c : List ℕ) → AreClosed n gs → id_from n gs c ≡ Some i → n ≤ i
id_at n i [] c a e = cc
id_at n i (g ∷ gs) c a e = go (bytes_eq c (code_of g)) e (id_at (n + length g) i gs c a.1)
  where
    go : (b : Bool) → cond b (Some n) (id_from (n + length g) gs c) ≡ Some i → (id_from (n + length g) gs c ≡ Some i → n + length g ≤ i) → n ≤ i
    go true e f = let q : n ≡ i = cc in omega arith
    go false e f = omega (arith, f e)

-- groups with one id have one code
one_code : (n i : ℕ) (gs : List Group) (c d : List ℕ) → AreClosed n gs → id_from n gs c ≡ Some i → id_from n gs d ≡ Some i → c ≡ d
one_code n i [] c d a e f = cc
one_code n i (g ∷ gs) c d a e f = go (bytes_eq c (code_of g)) (bytes_eq d (code_of g)) refl refl e f (one_code (n + length g) i gs c d a.1)
  where
    low : (c : List ℕ) → id_from (n + length g) gs c ≡ Some n → ⊥
    low c e = omega (arith, id_at (n + length g) n gs c a.1 e, a.0.some)

    go : (b b' : Bool) → bytes_eq c (code_of g) ≡ b → bytes_eq d (code_of g) ≡ b' → cond b (Some n) (id_from (n + length g) gs c) ≡ Some i → cond b' (Some n) (id_from (n + length g) gs d) ≡ Some i
        → (id_from (n + length g) gs c ≡ Some i → id_from (n + length g) gs d ≡ Some i → c ≡ d) → c ≡ d
    go true true x y e f r = same_bytes c (code_of g) x ∙ sym (same_bytes d (code_of g) y)
    go true false x y e f r = Prim.absurd (low d (f ∙ sym e))
    go false true x y e f r = Prim.absurd (low c (e ∙ sym f))
    go false false x y e f r = r e f

-- groups that are found at one id are one
pub one_group : (i : ℕ) (gs : List Group) (g h : Group) → AreClosed 0 gs → id_of gs g ≡ Some i → id_of gs h ≡ Some i → g ≡ h
one_group i gs g h a e f = code_of-same g h (one_code 0 i gs (code_of g) (code_of h) a e f)
