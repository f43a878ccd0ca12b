-- Numbers that ascend are all different, and so are the labels that have them.
use Rattle.std.proofs.Common.{◌≡◌, ℕ, suc, ◌+◌, ◌<◌, ◌≤◌, List, [], ◌∷◌, ◌++◌, length, take, map, get_or, refl, sym, ◌∙◌, ap, arith, Bool, true, false, ◌||◌, ◌&&◌, eqb, eq-eqb, add-one, Some}
use Rattle.std.specs.Prelude.{slice_get}
use Rattle.std.specs.List.{sum_by, list_all}
use Rattle.std.specs.List.Sorted.{IsPermutation}
use Rattle.std.proofs.lemmas.List.Sums.{sum_by-cons}
use Rattle.std.proofs.lemmas.List.Folds.{list_all-append}
use Rattle.std.specs.Str.{bytes_eq}
use Rattle.std.proofs.lemmas.Bool.{false≢true, eqb-true}
use Rattle.std.proofs.lemmas.Slice.Eq.{bytes_eq-Decides}
use Rattle.std.proofs.lemmas.List.Sorted.{sum_by-IsPermutation}
use Rattle.wcv_core.specs.Label.{is_label, lower_case, is_among}
use Rattle.wcv_core.specs.LabelSet.{mixed}
use Rattle.wcv_types.specs.Tree.{Text}
use Rattle.wcv_types.proofs.Each.{map-push}
use Rattle.wcv_types.proofs.Knowing.{take-next}
use Rattle.wcv_lower.specs.Checks.{has_repeat}
use Rattle.wcv_decls.specs.Numbers.{number_of, Ascend}

-- ## How often a number stands in a list

abbrev one_if : Bool → ℕ
one_if true = 1
one_if false = 0

abbrev is : ℕ → ℕ → ℕ
is x y = one_if (eqb x y)

-- each is at least the bound, and greater than the one before it
AscendFrom : ℕ → List ℕ → Type 0
AscendFrom b [] = Unit {0}
AscendFrom b (y ∷ ys) = (b ≤ y) × AscendFrom (suc y) ys

is_same : (x y : ℕ) → x ≡ y → is x y ≡ 1
is_same x y e = ap one_if (eq-eqb x y e)

is_other : (x y : ℕ) → (x ≡ y → ⊥) → is x y ≡ 0
is_other x y n = go (eqb x y) refl
  where
    go : (b : Bool) → eqb x y ≡ b → one_if b ≡ 0
    go true e = absurd (n (eqb-true x y e))
    go false e = refl

is_at_most : (x y : ℕ) → is x y ≤ 1
is_at_most x y = go (eqb x y)
  where
    go : (b : Bool) → one_if b ≤ 1
    go true = omega arith
    go false = omega arith

-- below the bound there is none
none_below : (x b : ℕ) (ys : List ℕ) → AscendFrom b ys → x < b → sum_by (is x) ys ≡ 0
unfolding AscendFrom
none_below x b [] a h = refl
none_below x b (y ∷ ys) a h =
    sum_by-cons (is x) y ys ∙ omega (arith, is_other x y (λ e. omega (arith, e, h, a.0)), none_below x (suc y) ys a.1 (omega (arith, h, a.0)))

-- none stands twice
at_most_once : (x b : ℕ) (ys : List ℕ) → AscendFrom b ys → sum_by (is x) ys ≤ 1
unfolding AscendFrom
at_most_once x b [] a = omega arith
at_most_once x b (y ∷ ys) a = go (eqb x y) refl (at_most_once x (suc y) ys a.1)
  where
    go : (c : Bool) → eqb x y ≡ c → sum_by (is x) ys ≤ 1 → sum_by (is x) (y ∷ ys) ≤ 1
    go true e w =
        let s : x ≡ y = eqb-true x y e in
        omega (arith, sum_by-cons (is x) y ys, is_at_most x y, none_below x (suc y) ys a.1 (omega (arith, s)))
    go false e w = omega (arith, sum_by-cons (is x) y ys, ap one_if e, w)

ascend_from : (b : ℕ) (ys : List ℕ) → (0 < length ys → b ≤ get_or ys 0 0) → Ascend ys → AscendFrom b ys
unfolding AscendFrom
ascend_from b [] h a = tt
ascend_from b (y ∷ []) h a = (h (omega arith), tt)
ascend_from b (y ∷ z ∷ ys) h a = (h (omega arith), ascend_from (suc y) (z ∷ ys) (λ _. a 0 (omega arith)) (λ k w. a (suc k) (omega (arith, w))))

-- ## Labels that are there twice

among_counted : (t : Text) (ts : List Text) → is_among t ts ≡ true → 1 ≤ sum_by (is (mixed t)) (map mixed ts)
among_counted t [] h = absurd (false≢true h)
among_counted t (u ∷ us) h = go (bytes_eq t u) refl h (λ w. among_counted t us w)
  where
    go : (b : Bool) → bytes_eq t u ≡ b → (b || is_among t us) ≡ true → (is_among t us ≡ true → 1 ≤ sum_by (is (mixed t)) (map mixed us)) → 1 ≤ sum_by (is (mixed t)) (mixed u ∷ map mixed us)
    go true e w f = omega (arith, sum_by-cons (is (mixed t)) (mixed u) (map mixed us), is_same (mixed t) (mixed u) (ap mixed ((bytes_eq-Decides t u).0 e)))
    go false e w f = omega (arith, sum_by-cons (is (mixed t)) (mixed u) (map mixed us), f w)

repeat_counted : (ts : List Text) → has_repeat ts ≡ true → (x : ℕ) × (2 ≤ sum_by (is x) (map mixed ts))
repeat_counted [] h = absurd (false≢true h)
repeat_counted (t ∷ ts) h = go (is_among t ts) refl h (λ w. repeat_counted ts w)
  where
    go : (b : Bool) → is_among t ts ≡ b → (b || has_repeat ts) ≡ true → (has_repeat ts ≡ true → (x : ℕ) × (2 ≤ sum_by (is x) (map mixed ts))) → (x : ℕ) × (2 ≤ sum_by (is x) (mixed t ∷ map mixed ts))
    go true e w f = (mixed t, omega (arith, sum_by-cons (is (mixed t)) (mixed t) (map mixed ts), is_same (mixed t) (mixed t) refl, among_counted t ts e))
    go false e w f = let r = f w in (r.0, omega (arith, sum_by-cons (is r.0) (mixed t) (map mixed ts), r.1))

numbers_of : (ns : List Text) → map number_of ns ≡ map mixed (map lower_case ns)
numbers_of [] = refl
numbers_of (n ∷ ns) = ap (λ ms. number_of n ∷ ms) (numbers_of ns)

-- labels whose numbers ascend in some order are all different
pub all_different : (ns : List Text) (xs ys : List ℕ) → xs ≡ map number_of ns → IsPermutation xs ys → Ascend ys → has_repeat (map lower_case ns) ≡ false
all_different ns xs ys e perm a = go (has_repeat (map lower_case ns)) refl
  where
    go : (b : Bool) → has_repeat (map lower_case ns) ≡ b → b ≡ false
    go false h = refl
    go true h =
        let r = repeat_counted (map lower_case ns) h in
        let same : sum_by (is r.0) ys ≡ sum_by (is r.0) (map mixed (map lower_case ns)) = sum_by-IsPermutation (is r.0) xs ys perm ∙ ap (sum_by (is r.0)) (e ∙ numbers_of ns) in
        absurd (omega (arith, r.1, same, at_most_once r.0 0 ys (ascend_from 0 ys (λ _. omega arith) a)))

-- ## One name on

pub labels_next : (ns : List Text) (k : ℕ) (t : Text) → slice_get ns k ≡ Some t → list_all is_label (take k ns) ≡ true → is_label t ≡ true → list_all is_label (take (k + 1) ns) ≡ true
labels_next ns k t h a b =
    ap (λ (j : ℕ). list_all is_label (take j ns)) (add-one k) ∙ ap (list_all is_label) (take-next ns k t h) ∙ list_all-append is_label (take k ns) (t ∷ []) ∙
    (λ j. a j && (b j && true))

pub numbers_next : (ns : List Text) (k : ℕ) (t : Text) (xs ys : List ℕ) → slice_get ns k ≡ Some t → xs ≡ map number_of (take k ns) → ys ≡ xs ++ number_of t ∷ [] → ys ≡ map number_of (take (k + 1) ns)
numbers_next ns k t xs ys h e f =
    f ∙ ap (λ (zs : List ℕ). zs ++ number_of t ∷ []) e ∙ sym (map-push number_of (take k ns) t) ∙ ap (map number_of) (sym (take-next ns k t h)) ∙ ap (λ (j : ℕ). map number_of (take j ns)) (sym (add-one k))
