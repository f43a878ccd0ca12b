-- A label joins a set of labels.
use Rattle.std.proofs.Common.{◌≡◌, ℕ, List, [], ◌∷◌, Bool, true, false, ◌||◌, ◌&&◌, refl, sym, ◌∙◌, ap, arith, string_bytes, Ordering, Less, Equal, Greater}
use Rattle.std.proofs.Math.Bool.{and-false, or_self_left}
use Rattle.std.specs.Cmp.{tied_then}
use Rattle.std.specs.Ordering.{is_eq, nat_cmp, ordering_then, match_ordering}
use Rattle.std.specs.List.{list_any}
use Rattle.std.specs.Str.{bytes_eq}
use Rattle.std.specs.String.{string_cmp}
use Rattle.std.specs.BTreeSet.{insert_key}
use Rattle.std.specs.BTreeMap.{is_at}
use Rattle.std.proofs.lemmas.Bool.Decides.{nat_tests}
use Rattle.std.proofs.lemmas.Map.Text.{is_eq-slice_cmp}
use Rattle.wcv_core.proofs.Among.{same_bytes, or_swap}
use Rattle.wcv_core.specs.Label.{is_among}
use Rattle.wcv_core.specs.LabelSet.{mixed, Numbered, texts, IsNumbered, AreNumbered}

-- how a set orders its labels
abbrev pub order : Numbered → Numbered → Ordering
order x y = ordering_then (nat_cmp x.0 y.0) (string_cmp x.1 y.1)

abbrev bytes : Numbered → List ℕ
bytes k = string_bytes k.1

number_equal : (m n : ℕ) → m ≡ n → is_eq (nat_cmp m n) ≡ true
number_equal m n e = grind (arith, nat_tests)

-- labels behind their own numbers are equal in the order where their bytes are
pub equal_bytes : (x y : Numbered) → IsNumbered x → IsNumbered y → is_eq (order x y) ≡ bytes_eq (bytes x) (bytes y)
equal_bytes x y p q = sym (tied_then (nat_cmp x.0 y.0) (string_cmp x.1 y.1)) ∙ ap (λ (b : Bool). is_eq (nat_cmp x.0 y.0) && b) (is_eq-slice_cmp (bytes x) (bytes y)) ∙ go (bytes_eq (bytes x) (bytes y)) refl
  where
    go : (b : Bool) → bytes_eq (bytes x) (bytes y) ≡ b → (is_eq (nat_cmp x.0 y.0) && b) ≡ b
    go true e = ap (λ (b : Bool). b && true) (number_equal x.0 y.0 (p ∙ ap mixed (same_bytes (bytes x) (bytes y) e) ∙ sym q))
    go false e = and-false (is_eq (nat_cmp x.0 y.0))

-- a set has what compares equal to a label where it has the label's bytes
pub has_bytes : (k : Numbered) (ks : List Numbered) → IsNumbered k → AreNumbered ks → list_any (is_at (order k)) ks ≡ is_among (bytes k) (texts ks)
has_bytes k [] p q = refl
has_bytes k (x ∷ ks) p q =
    ap (λ (b : Bool). b || list_any (is_at (order k)) ks) (equal_bytes k x p q.0) ∙ ap (λ (b : Bool). bytes_eq (bytes k) (bytes x) || b) (has_bytes k ks p q.1)

-- after a label joined, the set has it and what it had
pub has_more : (t : List ℕ) (k : Numbered) (ks : List Numbered) → IsNumbered k → AreNumbered ks → is_among t (texts (insert_key order ks k)) ≡ (bytes_eq t (bytes k) || is_among t (texts ks))
has_more t k [] p q = refl
has_more t k (x ∷ ks) p q = go (order k x) refl (has_more t k ks p q.1)
  where
    go : (o : Ordering) → order k x ≡ o → is_among t (texts (insert_key order ks k)) ≡ (bytes_eq t (bytes k) || is_among t (texts ks)) → is_among t (texts (match_ordering o (k ∷ x ∷ ks) (x ∷ ks) (x ∷ insert_key order ks k))) ≡ (bytes_eq t (bytes k) || (bytes_eq t (bytes x) || is_among t (texts ks)))
    go Less e more = refl
    go Equal e more =
        let same : bytes k ≡ bytes x = same_bytes (bytes k) (bytes x) (sym (equal_bytes k x p q.0) ∙ ap is_eq e) in
        sym (or_self_left (bytes_eq t (bytes x)) (is_among t (texts ks))) ∙ ap (λ (b : List ℕ). bytes_eq t b || (bytes_eq t (bytes x) || is_among t (texts ks))) (sym same)
    go Greater e more = ap (λ (b : Bool). bytes_eq t (bytes x) || b) more ∙ or_swap (bytes_eq t (bytes x)) (bytes_eq t (bytes k)) (is_among t (texts ks))

-- and each label in it is behind its own number
pub stay_numbered : (k : Numbered) (ks : List Numbered) → IsNumbered k → AreNumbered ks → AreNumbered (insert_key order ks k)
stay_numbered k [] p q = (p, tt)
stay_numbered k (x ∷ ks) p q = go (order k x) (stay_numbered k ks p q.1)
  where
    go : (o : Ordering) → AreNumbered (insert_key order ks k) → AreNumbered (match_ordering o (k ∷ x ∷ ks) (x ∷ ks) (x ∷ insert_key order ks k))
    go Less more = (p, q)
    go Equal more = q
    go Greater more = (q.0, more)
