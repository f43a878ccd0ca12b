-- One more group, and one more type, at the end.
use Rattle.std.proofs.Common.{◌≡◌, ℕ, zero, suc, ◌+◌, ◌<◌, ◌≤◌, List, [], ◌∷◌, ◌++◌, length, map, take, get_or, refl, sym, ◌∙◌, ap, arith, append_assoc, add-one, subst, Option, Some, None, IfSome, length-append, ◌-◌, nat_lt, cond, Bool, true, false, ◌⊎◌, inl, inr}
use Rattle.std.proofs.lemmas.Bool.Decides.{nat_tests}
use Rattle.wcv_core.specs.CoreForm.{SubForm, Group, struct_form}
use Rattle.wcv_core.specs.declared.core_rows.Row.{Row}
use Rattle.wcv_core.specs.CoreGroups.{total, types_of, place_from, parent_in, parents_from, AreOrdered, IsClosed, AreClosed, depth_after, add_depths}
use Rattle.wcv_core.specs.CoreRows.{place_in, places_from}

append_nil : {A : Type 0} (c : List A) → c ++ [] ≡ c
append_nil [] = refl
append_nil (n ∷ c) = λ j. n ∷ append_nil c j

pub length-map : {A B : Type 0} (f : A → B) (xs : List A) → length (map f xs) ≡ length xs
length-map f [] = refl
length-map f (x ∷ xs) = ap suc (length-map f xs)

pub get_or-map : {A B : Type 0} (f : A → B) (xs : List A) (i : ℕ) (d : A) → get_or (map f xs) i (f d) ≡ f (get_or xs i d)
get_or-map f [] i d = refl
get_or-map f (x ∷ xs) zero d = refl
get_or-map f (x ∷ xs) (suc i) d = get_or-map f xs i d

pub total-append : (gs : List Group) (g : Group) → total (gs ++ g ∷ []) ≡ total gs + length g
total-append [] g = omega arith
total-append (h ∷ gs) g = let e : total (gs ++ g ∷ []) ≡ total gs + length g = total-append gs g in omega arith

pub length-places : (number n : ℕ) (gs : List Group) → length (places_from number n gs) ≡ total gs
length-places number n [] = refl
length-places number n (g ∷ gs) =
    let e : length (places_from (suc number) (n + length g) gs) ≡ total gs = length-places (suc number) (n + length g) gs in
    let f : length (map (place_in number n) g) ≡ length g = length-map (place_in number n) g in
    length-append (map (place_in number n) g) (places_from (suc number) (n + length g) gs) ∙ omega arith

pub places-append : (number n : ℕ) (gs : List Group) (g : Group)
    → places_from number n (gs ++ g ∷ []) ≡ places_from number n gs ++ map (place_in (number + length gs) (n + total gs)) g
places-append number n [] g =
    let a : number ≡ number + 0 = omega arith in
    let b : n ≡ n + 0 = omega arith in
    append_nil (map (place_in number n) g) ∙ λ j. map (place_in (a j) (b j)) g
places-append number n (h ∷ gs) g =
    let a : suc number + length gs ≡ number + suc (length gs) = omega arith in
    let b : n + length h + total gs ≡ n + (length h + total gs) = omega arith in
    ap (λ (ps : List Row). map (place_in number n) h ++ ps) (places-append (suc number) (n + length h) gs g ∙ λ j. places_from (suc number) (n + length h) gs ++ map (place_in (a j) (b j)) g) ∙
    sym (append_assoc (map (place_in number n) h) (places_from (suc number) (n + length h) gs) (map (place_in (number + length (h ∷ gs)) (n + total (h ∷ gs))) g))

pub parents-append : (n : ℕ) (gs : List Group) (g : Group) → parents_from n (gs ++ g ∷ []) ≡ parents_from n gs ++ map (parent_in (n + total gs)) g
parents-append n [] g =
    let b : n ≡ n + 0 = omega arith in
    append_nil (map (parent_in n) g) ∙ λ j. map (parent_in (b j)) g
parents-append n (h ∷ gs) g =
    let b : n + length h + total gs ≡ n + (length h + total gs) = omega arith in
    ap (λ (ps : List (Option ℕ)). map (parent_in n) h ++ ps) (parents-append (n + length h) gs g ∙ λ j. parents_from (n + length h) gs ++ map (parent_in (b j)) g) ∙
    sym (append_assoc (map (parent_in n) h) (parents_from (n + length h) gs) (map (parent_in (n + total (h ∷ gs))) g))

pub closed-append : (n : ℕ) (gs : List Group) (g : Group) → AreClosed n gs → IsClosed (n + total gs) g → AreClosed n (gs ++ g ∷ [])
closed-append n [] g h c =
    let b : n + 0 ≡ n = omega arith in
    (subst (λ (m : ℕ). IsClosed m g) b c, tt)
closed-append n (x ∷ gs) g h c =
    let b : n + (length x + total gs) ≡ n + length x + total gs = omega arith in
    (h.0, closed-append (n + length x) gs g h.1 (subst (λ (m : ℕ). IsClosed m g) b c))

pub add_depths-append : (ds : List ℕ) (ps qs : List (Option ℕ)) → add_depths ds (ps ++ qs) ≡ add_depths (add_depths ds ps) qs
add_depths-append ds [] qs = refl
add_depths-append ds (p ∷ ps) qs = add_depths-append (ds ++ depth_after ds p ∷ []) ps qs

pub length-depths : (ds : List ℕ) (ps : List (Option ℕ)) → length (add_depths ds ps) ≡ length ds + length ps
length-depths ds [] = omega arith
length-depths ds (p ∷ ps) =
    let e : length (ds ++ depth_after ds p ∷ []) ≡ length ds + 1 = length-append ds (depth_after ds p ∷ []) in
    length-depths (ds ++ depth_after ds p ∷ []) ps ∙ omega arith

pub take-front : {A : Type 0} (xs ys : List A) → take (length xs) (xs ++ ys) ≡ xs
take-front [] ys = refl
take-front (x ∷ xs) ys = λ j. x ∷ take-front xs ys j

-- depths that stand stay
pub take-depths : (ds : List ℕ) (ps : List (Option ℕ)) → take (length ds) (add_depths ds ps) ≡ ds
take-depths ds ps = ap (λ (es : List ℕ). take (length ds) (add_depths es ps)) (sym (append_nil ds)) ∙ go ds ps []
  where
    go : (ds : List ℕ) (ps : List (Option ℕ)) (es : List ℕ) → take (length ds) (add_depths (ds ++ es) ps) ≡ ds
    go ds [] es = take-front ds es
    go ds (p ∷ ps) es =
        ap (λ (fs : List ℕ). take (length ds) (add_depths fs ps)) (append_assoc ds es (depth_after (ds ++ es) p ∷ [])) ∙ go ds ps (es ++ depth_after (ds ++ es) p ∷ [])

pub ordered_at : (n i : ℕ) (g : Group) (k : ℕ) (d : SubForm) → AreOrdered n i g → k < length g → IfSome (parent_in n (get_or g k d)) (λ p. p < i + k)
ordered_at n i [] k d o h = Prim.absurd (omega arith)
ordered_at n i (s ∷ g) zero d o h =
    let b : i ≡ i + 0 = omega arith in
    subst (λ (m : ℕ). IfSome (parent_in n s) (λ p. p < m)) b o.0
ordered_at n i (s ∷ g) (suc k) d o h =
    let b : i + 1 + k ≡ i + suc k = omega arith in
    subst (λ (m : ℕ). IfSome (parent_in n (get_or g k d)) (λ p. p < m)) b (ordered_at n (i + 1) g k d o.1 (omega arith))

pub weaken : (o : Option ℕ) (m n : ℕ) → m ≤ n → IfSome o (λ p. p < m) → IfSome o (λ p. p < n)
weaken None m n h l = l
weaken (Some p) m n h l = omega (arith, l)

pub item : {A B : Type 0} (f : A → B) (xs : List A) (i : ℕ) (x : A) → x ≡ get_or xs i x → get_or (map f xs) i (f x) ≡ f x
item f xs i x e = get_or-map f xs i x ∙ ap f (sym e)

map_step : {A B : Type 0} (f : A → B) (xs : List A) (i : ℕ) (x : A) → i < length xs → map f (take (suc i) xs) ≡ map f (take i xs) ++ f (get_or xs i x) ∷ []
map_step f [] i x h = Prim.absurd (omega arith)
map_step f (y ∷ xs) zero x h = refl
map_step f (y ∷ xs) (suc i) x h = λ j. f y ∷ map_step f xs i x (omega arith) j

pub next_place : {A B : Type 0} (f : A → B) (old : List B) (xs : List A) (i : ℕ) (x : A) → i < length xs → get_or xs i x ≡ x
    → (old ++ map f (take i xs)) ++ f x ∷ [] ≡ old ++ map f (take (i + 1) xs)
next_place {A} {B} f old xs i x h e =
    append_assoc old (map f (take i xs)) (f x ∷ []) ∙
    ap (λ (ys : List B). old ++ ys) (ap (λ (y : A). map f (take i xs) ++ f y ∷ []) (sym e) ∙ (sym (map_step f xs i x h) ∙ ap (λ (n : ℕ). map f (take n xs)) (sym (add-one i))))

pub next_depth : {A : Type 0} (f : A → Option ℕ) (ds : List ℕ) (xs : List A) (i : ℕ) (x : A) → i < length xs → get_or xs i x ≡ x
    → add_depths ds (map f (take i xs)) ++ depth_after (add_depths ds (map f (take i xs))) (f x) ∷ [] ≡ add_depths ds (map f (take (i + 1) xs))
next_depth f ds xs i x h e =
    sym (add_depths-append ds (map f (take i xs)) (f x ∷ [])) ∙ ap (add_depths ds) (next_place f [] xs i x h e)

pub length-taken : {A B : Type 0} (f : A → B) (xs : List A) (i : ℕ) → i ≤ length xs → length (map f (take i xs)) ≡ i
length-taken f xs zero h = refl
length-taken f [] (suc i) h = Prim.absurd (omega arith)
length-taken f (x ∷ xs) (suc i) h = ap suc (length-taken f xs i (omega arith))

-- ## Reading

pub split : (a b : ℕ) → (a < b) ⊎ (b ≤ a)
split a zero = inr (omega arith)
split zero (suc b) = inl (omega arith)
split (suc a) (suc b) = elim (split a b) [ inl l ↦ inl (omega (arith, l)) | inr l ↦ inr (omega (arith, l)) ]

-- what the place of a type tells
pub record Tells (number n : ℕ) (gs : List Group) (i : ℕ) (p : Row) : Type 0 where
  pub number_low : number ≤ p.group
  pub number_high : p.group < number + length gs
  pub first_low : n ≤ p.first
  pub first_high : p.first ≤ n + i
  pub within : n + i < p.first + length (get_or gs (p.group - number) [])
  pub type_is : (d : SubForm) → get_or (get_or gs (p.group - number) []) (n + i - p.first) d ≡ get_or (types_of gs) i d
  pub parent_is : p.parent ≡ get_or (parents_from n gs) i None
  pub place_is : place_from n gs (n + i) ≡ (p.first, length (get_or gs (p.group - number) []))

pub get_or-front : {A : Type 0} (xs ys : List A) (i : ℕ) (d : A) → i < length xs → get_or (xs ++ ys) i d ≡ get_or xs i d
get_or-front [] ys i d h = Prim.absurd (omega arith)
get_or-front (x ∷ xs) ys zero d h = refl
get_or-front (x ∷ xs) ys (suc i) d h = get_or-front xs ys i d (omega arith)

pub get_or-back : {A : Type 0} (xs ys : List A) (i : ℕ) (d : A) → length xs ≤ i → get_or (xs ++ ys) i d ≡ get_or ys (i - length xs) d
get_or-back [] ys i d h = let e : i - 0 ≡ i = omega arith in ap (λ (j : ℕ). get_or ys j d) (sym e)
get_or-back (x ∷ xs) ys zero d h = Prim.absurd (omega arith)
get_or-back (x ∷ xs) ys (suc i) d h = let e : suc i - suc (length xs) ≡ i - length xs = omega arith in get_or-back xs ys i d (omega arith) ∙ ap (λ (j : ℕ). get_or ys j d) (sym e)

pub get_or-any : {A : Type 0} (xs : List A) (i : ℕ) (d e : A) → i < length xs → get_or xs i d ≡ get_or xs i e
get_or-any [] i d e h = Prim.absurd (omega arith)
get_or-any (x ∷ xs) zero d e h = refl
get_or-any (x ∷ xs) (suc i) d e h = get_or-any xs i d e (omega arith)

pub mapped_at : {A B : Type 0} (f : A → B) (xs : List A) (i : ℕ) (x : A) (d : B) → i < length xs → get_or (map f xs) i d ≡ f (get_or xs i x)
mapped_at f xs i x d h = get_or-any (map f xs) i d (f x) (omega (arith, length-map f xs)) ∙ get_or-map f xs i x

pub is_below : (i m : ℕ) → i < m → nat_lt i m ≡ true
is_below i m h = grind (arith, nat_tests)

pub not_below : (i m : ℕ) → m ≤ i → nat_lt i m ≡ false
not_below i m h = grind (arith, nat_tests)

pub tells : (number n : ℕ) (gs : List Group) (i : ℕ) (d : Row) → i < total gs → Tells number n gs i (get_or (places_from number n gs) i d)
tells number n [] i d h = Prim.absurd (omega arith)
tells number n (g ∷ gs) i d h = go (λ l. tells (suc number) (n + length g) gs (i - length g) d l) (split i (length g))
  where
    here : (s : SubForm) → i < length g → get_or (places_from number n (g ∷ gs)) i d ≡ place_in number n (get_or g i s)
    here s l = get_or-front (map (place_in number n) g) (places_from (suc number) (n + length g) gs) i d (omega (arith, length-map (place_in number n) g)) ∙ mapped_at (place_in number n) g i s d l

    first : (s : SubForm) → i < length g → Tells number n (g ∷ gs) i (place_in number n (get_or g i s))
    first s l =
        let z : number - number ≡ 0 = omega arith in
        let y : n + i - n ≡ i = omega arith in
        record {
          number_low = omega arith;
          number_high = omega arith;
          first_low = omega arith;
          first_high = omega arith;
          within = subst (λ (m : ℕ). n + i < n + length (get_or (g ∷ gs) m [])) (sym z) (omega arith);
          type_is = λ e. (λ j. get_or (get_or (g ∷ gs) (z j) []) (y j) e) ∙ sym (get_or-front g (types_of gs) i e l);
          parent_is = sym (get_or-front (map (parent_in n) g) (parents_from (n + length g) gs) i None (omega (arith, length-map (parent_in n) g)) ∙ mapped_at (parent_in n) g i s None l);
          place_is = ap (λ (b : Bool). cond b (n, length g) (place_from (n + length g) gs (n + i))) (is_below (n + i) (n + length g) (omega arith)) ∙ ap (λ (m : ℕ). (n, length (get_or (g ∷ gs) m []))) (sym z);
        }

    later : (p : Row) → length g ≤ i → Tells (suc number) (n + length g) gs (i - length g) p → Tells number n (g ∷ gs) i p
    later p l t =
        let a : p.group - number ≡ suc (p.group - suc number) = omega (arith, t.number_low) in
        let b : n + length g + (i - length g) ≡ n + i = omega arith in
        record {
          number_low = omega (arith, t.number_low);
          number_high = omega (arith, t.number_high);
          first_low = omega (arith, t.first_low);
          first_high = omega (arith, t.first_high);
          within = subst (λ (m : ℕ). n + i < p.first + length (get_or (g ∷ gs) m [])) (sym a) (omega (arith, t.within));
          type_is = λ e. (λ j. get_or (get_or (g ∷ gs) (a j) []) (sym b j - p.first) e) ∙ (t.type_is e ∙ sym (get_or-back g (types_of gs) i e l));
          parent_is = t.parent_is ∙ (ap (λ (m : ℕ). get_or (parents_from (n + length g) gs) m None) (ap (λ (m : ℕ). i - m) (sym (length-map (parent_in n) g))) ∙ sym (get_or-back (map (parent_in n) g) (parents_from (n + length g) gs) i None (omega (arith, length-map (parent_in n) g))));
          place_is =
              ap (λ (b : Bool). cond b (n, length g) (place_from (n + length g) gs (n + i))) (not_below (n + i) (n + length g) (omega arith)) ∙
              (ap (place_from (n + length g) gs) (sym b) ∙ (t.place_is ∙ ap (λ (m : ℕ). (p.first, length (get_or (g ∷ gs) m []))) (sym a)));
        }

    go : (i - length g < total gs → Tells (suc number) (n + length g) gs (i - length g) (get_or (places_from (suc number) (n + length g) gs) (i - length g) d)) → (i < length g) ⊎ (length g ≤ i) → Tells number n (g ∷ gs) i (get_or (places_from number n (g ∷ gs)) i d)
    go rest (inl l) = from_some g l
      where
        from_some : (h : Group) → i < length g → Tells number n (g ∷ gs) i (get_or (places_from number n (g ∷ gs)) i d)
        from_some [] l = let s : SubForm = record { is_final = true; supertype = None; shared = true; inner = struct_form [] } in subst (Tells number n (g ∷ gs) i) (sym (here s l)) (first s l)
        from_some (s ∷ h) l = subst (Tells number n (g ∷ gs) i) (sym (here s l)) (first s l)
    go rest (inr l) =
        let m : length (map (place_in number n) g) ≡ length g = length-map (place_in number n) g in
        let e : get_or (places_from number n (g ∷ gs)) i d ≡ get_or (places_from (suc number) (n + length g) gs) (i - length g) d =
        get_or-back (map (place_in number n) g) (places_from (suc number) (n + length g) gs) i d (omega arith) ∙ ap (λ (k : ℕ). get_or (places_from (suc number) (n + length g) gs) (i - k) d) m in
        subst (Tells number n (g ∷ gs) i) (sym e) (later (get_or (places_from (suc number) (n + length g) gs) (i - length g) d) l (rest (omega arith)))
