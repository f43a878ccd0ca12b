-- Tables of numbers of shapes, and how they grow.
use Rattle.std.proofs.Common.{◌≡◌, ℕ, ◌+◌, ◌<◌, ◌≤◌, List, [], ◌∷◌, ◌++◌, length, cond, refl, sym, ◌∙◌, ap, subst, arith, Bool, true, false, Option, Some, None, inl, inr, Ordering, Less, Equal, Greater}
use Rattle.std.specs.Prelude.{◌⊎◌}
use Rattle.std.specs.BTreeMap.{BTreeMap, get, is_at, Updates}
use Rattle.std.specs.Map.{lookup}
use Rattle.std.specs.Ordering.{is_eq, nat_cmp}
use Rattle.std.specs.Cmp.Lexicographic.{slice_cmp}
use Rattle.std.proofs.lemmas.Map.Lookups.{exact_bytes, exact_pairs}
use Rattle.std.proofs.lemmas.Bool.{false≢true}
use Rattle.std.proofs.lemmas.Option.{slice_get_within}
use Rattle.std.proofs.Math.ListN.{get_or-append}
use Rattle.wcv_types.specs.ShapeNumbers.{Code, Codes, Key, code_cmp, codes_in, first_number, AreApart, Keeps, IsGiven, Numbered, shape_number}
use Rattle.wcv_types.specs.Unfold.{Type_tree, left_out, tree_in, tree_of, trees}
use Rattle.wcv_types.specs.declared.arena.Node.{Node}
use Rattle.wcv_types.specs.declared.arena.Node.TheVariants as n
use Rattle.wcv_types.specs.declared.shape_numbers.Given.{Given}
use Rattle.wcv_types.specs.declared.shape_numbers.ShapeNumbers.{ShapeNumbers}
use Rattle.wcv_types.proofs.Grown.{length-trees, trees-push}
use Rattle.wcv_types.proofs.Sharing.{still_there}
use Rattle.wcv_types.proofs.ShapeCodes.{number_stays}

abbrev pub key_cmp : Key → Key → Ordering
key_cmp x y = code_cmp (x.0.items, x.1.items) (y.0.items, y.1.items)

abbrev code_in : Key → Code
code_in k = (k.0.items, k.1.items)

is_equal : (o : Ordering) → is_eq o ≡ true → o ≡ Equal
is_equal Less e = absurd (false≢true e)
is_equal Equal e = refl
is_equal Greater e = absurd (false≢true e)

same_code : (c d : Code) → is_eq (code_cmp c d) ≡ true → c ≡ d
same_code c d e = exact_pairs (slice_cmp nat_cmp) (slice_cmp nat_cmp) exact_bytes exact_bytes c d (is_equal (code_cmp c d) e)

key_or : (b : Bool) (x : Key × ℕ) (c : Code) (o : Option ℕ) (j : ℕ) → is_eq (code_cmp c (code_in x.0)) ≡ b → cond b (Some x.1) o ≡ Some j → (o ≡ Some j → (q : Key) × (c ≡ code_in q)) → (q : Key) × (c ≡ code_in q)
key_or true x c o j s i f = (x.0, same_code c (code_in x.0) s)
key_or false x c o j s i f = f i

-- a code that has a number is that of a key
key_of : (es : List (Key × ℕ)) (c : Code) (j : ℕ) → lookup (is_at (λ (k : Key). code_cmp c (code_in k))) es ≡ Some j → (q : Key) × (c ≡ code_in q)
key_of [] c j e = cc
key_of (x ∷ es) c j e = key_or (is_eq (code_cmp c (code_in x.0))) x c (lookup (is_at (λ (k : Key). code_cmp c (code_in k))) es) j refl e (λ f. key_of es c j f)

found : (m : BTreeMap Key ℕ) (c : Code) (j : ℕ) → codes_in m c ≡ Some j → (q : Key) × (c ≡ code_in q)
found m c j e = key_of m.entries c j e

same_some : (i j : ℕ) → Some i ≡ Some j → i ≡ j
same_some i j e = cc

-- ## One more code

module _ (m m' : BTreeMap Key ℕ) (key : Key) (k : ℕ) (none : get key_cmp m key ≡ None) (u : Updates key_cmp m m' key (Some k)) where
  -- what has a number then
  back : (c : Code) (j : ℕ) → codes_in m' c ≡ Some j → ((c ≡ code_in key) × (j ≡ k)) ⊎ (codes_in m c ≡ Some j)
  back c j e =
      let w = found m' c j e in
      let f : get key_cmp m' w.0 ≡ Some j = ap (codes_in m') (sym w.1) ∙ e in
      go w.0 w.1 (is_eq (key_cmp key w.0)) refl (sym (u.0 w.0) ∙ f)
    where
      go : (q : Key) → c ≡ code_in q → (b : Bool) → is_eq (key_cmp key q) ≡ b → cond b (Some k) (get key_cmp m q) ≡ Some j → ((c ≡ code_in key) × (j ≡ k)) ⊎ (codes_in m c ≡ Some j)
      go q s true t i = inl (s ∙ sym (same_code (code_in key) (code_in q) t), sym (same_some k j i))
      go q s false t i = inr (ap (codes_in m) s ∙ i)

  pub codes_stay : Keeps (codes_in m) (codes_in m')
  codes_stay c j e =
      let w = found m c j e in
      ap (codes_in m') w.1 ∙ u.0 w.0 ∙ go w.0 (ap (codes_in m) (sym w.1) ∙ e) (is_eq (key_cmp key w.0)) refl
    where
      go : (q : Key) → codes_in m (code_in q) ≡ Some j → (b : Bool) → is_eq (key_cmp key q) ≡ b → cond b (Some k) (get key_cmp m q) ≡ Some j
      go q s false t = s
      go q s true t =
          let f : None ≡ Some j = sym none ∙ ap (codes_in m) (same_code (code_in key) (code_in q) t) ∙ s in
          cc

  module _ (high : first_number ≤ k) (below : (c : Code) (j : ℕ) → codes_in m c ≡ Some j → j < k) (w : AreApart (codes_in m)) where
    pub below_added : (c : Code) (j : ℕ) → codes_in m' c ≡ Some j → j < k + 1
    below_added c j e = go (back c j e)
      where
        go : ((c ≡ code_in key) × (j ≡ k)) ⊎ (codes_in m c ≡ Some j) → j < k + 1
        go (inl x) = omega (arith, x.1)
        go (inr x) = omega (arith, below c j x)

    pub apart_added : AreApart (codes_in m')
    apart_added = record {
      one = λ c d j e f. same c d j (back c j e) (back d j f);
      above = λ c j e. high_enough c j (back c j e);
    }
      where
        same : (c d : Code) (j : ℕ) → ((c ≡ code_in key) × (j ≡ k)) ⊎ (codes_in m c ≡ Some j) → ((d ≡ code_in key) × (j ≡ k)) ⊎ (codes_in m d ≡ Some j) → c ≡ d
        same c d j (inl x) (inl y) = x.0 ∙ sym y.0
        same c d j (inl x) (inr y) = absurd (omega (arith, x.1, below d j y))
        same c d j (inr x) (inl y) = absurd (omega (arith, y.1, below c j x))
        same c d j (inr x) (inr y) = w.one c d j x y

        high_enough : (c : Code) (j : ℕ) → ((c ≡ code_in key) × (j ≡ k)) ⊎ (codes_in m c ≡ Some j) → first_number ≤ j
        high_enough c j (inl x) = omega (arith, x.1, high)
        high_enough c j (inr x) = w.above c j x

-- ## Tables

given_stays : (m m' : Codes) (xs : List Node) (g : Given) → Keeps m m' → IsGiven m xs g → IsGiven m' xs g
given_stays m m' xs g w x = record { shape = x.shape; there = x.there; number = number_stays m m' w (tree_in (trees xs) g.place) g.number x.number }

-- the table with one more code
pub numbered_code : (xs : List Node) (t u : ShapeNumbers) (key : Key) (k : ℕ) → Numbered xs t → k ≡ t.next → u.next ≡ k + 1 → u.given ≡ t.given → get key_cmp t.codes key ≡ None → Updates key_cmp t.codes u.codes key (Some k) → Numbered xs u
numbered_code xs t u key k w e f g none up =
    let high : first_number ≤ k = omega (arith, w.next, e) in
    let below : (c : Code) (j : ℕ) → codes_in t.codes c ≡ Some j → j < k = λ c j h. omega (arith, w.below c j h, e) in
    record {
      apart = apart_added t.codes u.codes key k none up high below w.apart;
      next = omega (arith, w.next, e, f);
      below = λ c j h. omega (arith, below_added t.codes u.codes key k none up high below w.apart c j h, f);
      given = λ q x h. given_stays (codes_in t.codes) (codes_in u.codes) xs x (codes_stay t.codes u.codes key k none up) (w.given q x (ap (λ (y : BTreeMap ℕ Given). get nat_cmp y q) (sym g) ∙ h));
    }

-- the table with the same entries
pub numbered_kept : (xs : List Node) (t u : ShapeNumbers) → Numbered xs t → u.codes.entries ≡ t.codes.entries → u.next ≡ t.next → u.given ≡ t.given → Numbered xs u
numbered_kept xs t u w e n g =
    let codes : codes_in t.codes ≡ codes_in u.codes = λ i c. lookup (is_at (λ (k : Key). code_cmp c (code_in k))) (sym e i) in
    record {
      apart = subst AreApart codes w.apart;
      next = omega (arith, w.next, n);
      below = λ d j h. omega (arith, n, w.below d j (ap (λ (m : Codes). m d) codes ∙ h));
      given = λ r y h. subst (λ (m : Codes). IsGiven m xs y) codes (w.given r y (ap (λ (m : BTreeMap ℕ Given). get nat_cmp m r) (sym g) ∙ h));
    }

-- the same table, once there is one more node
pub numbered_push : (xs ys : List Node) (x : Node) (t : ShapeNumbers) → ys ≡ xs ++ x ∷ [] → Numbered xs t → Numbered ys t
numbered_push xs ys x t e w = record {
  apart = w.apart;
  next = w.next;
  below = w.below;
  given = λ q g h. subst (λ (zs : List Node). IsGiven (codes_in t.codes) zs g) (sym e) (more g (w.given q g h));
}
  where
    more : (g : Given) → IsGiven (codes_in t.codes) xs g → IsGiven (codes_in t.codes) (xs ++ x ∷ []) g
    more g y =
        let inside : g.place < length xs = slice_get_within xs g.place (n.Defined y.shape) y.there in
        let same : tree_in (trees (xs ++ x ∷ [])) g.place ≡ tree_in (trees xs) g.place =
        ap (λ (ts : List Type_tree). tree_in ts g.place) (trees-push xs x) ∙ get_or-append (trees xs) (tree_of (trees xs) x ∷ []) left_out g.place (omega (arith, inside, length-trees xs)) in
        record { shape = y.shape; there = still_there xs (x ∷ []) g.place (n.Defined y.shape) y.there; number = ap (shape_number (codes_in t.codes)) same ∙ y.number }
