-- What the fields of the rows keep, and what they tell.
use Rattle.std.proofs.Common.{◌≡◌, ℕ, zero, suc, take, ◌+◌, ◌-◌, ◌<◌, ◌≤◌, List, [], ◌∷◌, ◌++◌, length, map, get_or, refl, sym, ◌∙◌, ap, arith, subst, None, length-append}
use Rattle.wcv_core.specs.declared.core_types.RecGroup.{RecGroup}
use Rattle.wcv_core.specs.CoreForm.{SubForm, Group, sub_form, group_form}
use Rattle.wcv_core.specs.declared.core_rows.Row.{Row}
use Rattle.wcv_core.specs.CoreGroups.{total, types_of, place_from, parent_in, parents_from, IsClosed, AreClosed, add_depths, depths_of}
use Rattle.wcv_core.specs.CoreRows.{place_in, places_from, AreLow, AreRows}
use Rattle.wcv_core.proofs.Rowing.{Tells, tells, length-map, length-places, places-append, parents-append, closed-append, add_depths-append, length-depths, mapped_at, total-append, take-front, take-depths}

-- what the place of a type tells
pub record Told (gs : List Group) (i : ℕ) (p : Row) : Type 0 where
  pub number : p.group < length gs
  pub first : p.first ≤ i
  pub within : i < p.first + length (get_or gs p.group [])
  pub type_is : (d : SubForm) → get_or (get_or gs p.group []) (i - p.first) d ≡ get_or (types_of gs) i d
  pub parent_is : p.parent ≡ get_or (parents_from 0 gs) i None
  pub place_is : place_from 0 gs i ≡ (p.first, length (get_or gs p.group []))

pub told : (gs : List Group) (ps : List Row) (ds : List ℕ) (i : ℕ) (p : Row) → AreRows gs ps ds → i < total gs → p ≡ get_or ps i p → Told gs i p
told gs ps ds i p r h e =
    let t : Tells 0 0 gs i p = subst (Tells 0 0 gs i) (sym (e ∙ ap (λ (qs : List Row). get_or qs i p) r.places_are)) (tells 0 0 gs i p h) in
    let z : p.group - 0 ≡ p.group = omega arith in
    let y : 0 + i ≡ i = omega arith in
    record {
      number = omega (arith, t.number_high);
      first = omega (arith, t.first_high);
      within = subst (λ (k : ℕ). i < p.first + length (get_or gs k [])) z (omega (arith, t.within));
      type_is = λ d. (λ j. get_or (get_or gs (sym z j) []) (sym y j - p.first) d) ∙ t.type_is d;
      parent_is = t.parent_is;
      place_is = ap (place_from 0 gs) (sym y) ∙ (t.place_is ∙ ap (λ (k : ℕ). (p.first, length (get_or gs k []))) z);
    }

pub length-parents : (n : ℕ) (gs : List Group) → length (parents_from n gs) ≡ total gs
length-parents n [] = refl
length-parents n (g ∷ gs) =
    let e : length (parents_from (n + length g) gs) ≡ total gs = length-parents (n + length g) gs in
    let f : length (map (parent_in n) g) ≡ length g = length-map (parent_in n) g in
    length-append (map (parent_in n) g) (parents_from (n + length g) gs) ∙ omega arith

pub places_len : (gs : List Group) (ps : List Row) (ds : List ℕ) → AreRows gs ps ds → length ps ≡ total gs
places_len gs ps ds r = ap (length {A = Row}) r.places_are ∙ length-places 0 0 gs

pub depths_len : (gs : List Group) (ps : List Row) (ds : List ℕ) → AreRows gs ps ds → length ds ≡ total gs
depths_len gs ps ds r =
    let e : length (parents_from 0 gs) ≡ total gs = length-parents 0 gs in
    let f : 0 + length (parents_from 0 gs) ≡ length (parents_from 0 gs) = omega arith in
    ap (length {A = ℕ}) r.depths_are ∙ (length-depths [] (parents_from 0 gs) ∙ (f ∙ e))

-- the lists know an id of the table
pub record Stored (gs : List Group) (ps : List Row) (ds : List ℕ) (i : ℕ) : Type 0 where
  pub low : i < total gs
  pub placed : i < length ps
  pub deep : i < length ds

pub stored : (gs vs : List Group) (ps : List Row) (ds : List ℕ) (i : ℕ) → gs ≡ vs → AreRows gs ps ds → i < total vs → Stored gs ps ds i
stored gs vs ps ds i v r h =
    let l : i < total gs = subst (λ (xs : List Group). i < total xs) (sym v) h in
    record {
      low = l;
      placed = omega (arith, l, places_len gs ps ds r);
      deep = omega (arith, l, depths_len gs ps ds r);
    }

-- one more group
pub joined : (gs : List Group) (ps : List Row) (ds es : List ℕ) (g : Group) → AreRows gs ps ds → IsClosed (total gs) g
    → es ≡ add_depths ds (map (parent_in (length ps)) g) → AreLow es → AreRows (gs ++ g ∷ []) (ps ++ map (place_in (length gs) (length ps)) g) es
joined gs ps ds es g r c e low =
    let n : length ps ≡ total gs = places_len gs ps ds r in
    let a : length ps ≡ 0 + total gs = omega arith in
    let b : total gs ≡ 0 + total gs = omega arith in
    let k : length gs ≡ 0 + length gs = omega arith in
    record {
      places_are = (λ j. r.places_are j ++ map (place_in (k j) (a j)) g) ∙ sym (places-append 0 0 gs g);
      depths_are = e ∙ ((λ j. add_depths (r.depths_are j) (map (parent_in (a j)) g)) ∙ (sym (add_depths-append [] (parents_from 0 gs) (map (parent_in (0 + total gs)) g)) ∙ ap (add_depths []) (sym (parents-append 0 gs g))));
      low = low;
      closed = closed-append 0 gs g r.closed (subst (λ (m : ℕ). IsClosed m g) b c);
    }

pub group_is : (xs : List RecGroup) (k : ℕ) (r : RecGroup) → k < length xs → r ≡ get_or xs k r → get_or (map group_form xs) k [] ≡ group_form r
group_is xs k r h e = mapped_at group_form xs k r [] h ∙ ap group_form (sym e)

-- the group that a type stands in
pub record Held (xs : List RecGroup) (p : Row) (r : RecGroup) : Type 0 where
  pub group : get_or (map group_form xs) p.group [] ≡ group_form r
  pub count : length (get_or (map group_form xs) p.group []) ≡ length r.types.items

pub in_groups : (xs : List RecGroup) (i : ℕ) (p : Row) → Told (map group_form xs) i p → p.group < length xs
in_groups xs i p t = omega (arith, t.number, length-map group_form xs)

pub held : (xs : List RecGroup) (i : ℕ) (p : Row) (r : RecGroup) → Told (map group_form xs) i p → r ≡ get_or xs p.group r → Held xs p r
held xs i p r t e =
    let g : get_or (map group_form xs) p.group [] ≡ group_form r = group_is xs p.group r (in_groups xs i p t) e in
    record { group = g; count = ap (length {A = SubForm}) g ∙ length-map sub_form r.types.items }

pub map-append : {A B : Type 0} (f : A → B) (xs ys : List A) → map f (xs ++ ys) ≡ map f xs ++ map f ys
map-append f [] ys = refl
map-append f (x ∷ xs) ys = λ j. f x ∷ map-append f xs ys j

-- ## The last group goes

take-low : (n : ℕ) (ds : List ℕ) → AreLow ds → AreLow (take n ds)
take-low n ds low k = go n ds k k 0 (omega (arith, low k))
  where
    go : (n : ℕ) (ds : List ℕ) (k m j : ℕ) → get_or ds k 0 ≤ m → get_or (take n ds) k 0 ≤ m
    go zero ds k m j l = omega arith
    go (suc n) [] k m j l = omega arith
    go (suc n) (d ∷ ds) zero m j l = l
    go (suc n) (d ∷ ds) (suc k) m j l = go n ds k m j l

closed-front : (n : ℕ) (gs : List Group) (g : Group) → AreClosed n (gs ++ g ∷ []) → AreClosed n gs
closed-front n [] g c = tt
closed-front n (x ∷ gs) g c = (c.0, closed-front (n + length x) gs g c.1)

pub left : (gs : List Group) (g : Group) (ps : List Row) (ds : List ℕ) (n : ℕ) → AreRows (gs ++ g ∷ []) ps ds → n ≡ length ps - length g → AreRows gs (take n ps) (take n ds)
left gs g ps ds n r e =
    let t : length ps ≡ total (gs ++ g ∷ []) = places_len (gs ++ g ∷ []) ps ds r in
    let u : n ≡ total gs = omega (arith, total-append gs g) in
    let a : n ≡ length (places_from 0 0 gs) = u ∙ sym (length-places 0 0 gs) in
    let z : 0 + length (parents_from 0 gs) ≡ length (parents_from 0 gs) = omega arith in
    let b : n ≡ length (depths_of gs) = u ∙ sym (length-depths [] (parents_from 0 gs) ∙ (z ∙ length-parents 0 gs)) in
    let p : ps ≡ places_from 0 0 gs ++ map (place_in (0 + length gs) (0 + total gs)) g = r.places_are ∙ places-append 0 0 gs g in
    let d : ds ≡ add_depths (depths_of gs) (map (parent_in (0 + total gs)) g) = r.depths_are ∙ (ap (add_depths []) (parents-append 0 gs g) ∙ add_depths-append [] (parents_from 0 gs) (map (parent_in (0 + total gs)) g)) in
    record {
      places_are = (λ j. take (a j) (p j)) ∙ take-front (places_from 0 0 gs) (map (place_in (0 + length gs) (0 + total gs)) g);
      depths_are = (λ j. take (b j) (d j)) ∙ take-depths (depths_of gs) (map (parent_in (0 + total gs)) g);
      low = take-low n ds r.low;
      closed = closed-front 0 gs g r.closed;
    }
