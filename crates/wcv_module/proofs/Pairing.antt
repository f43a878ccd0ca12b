-- A pair of texts joins a set.
use Rattle.std.proofs.Common.{◌≡◌, List, [], ◌∷◌, Bool, true, ◌||◌, ◌&&◌, refl, sym, ◌∙◌, ap, arith, string_bytes, Ordering, Less, Equal, Greater}
use Rattle.std.specs.Ordering.{is_eq, ordering_then, match_ordering}
use Rattle.std.specs.List.{list_any}
use Rattle.std.specs.Str.{bytes_eq}
use Rattle.std.specs.String.{string_cmp}
use Rattle.std.specs.BTreeSet.{insert_key}
use Rattle.std.specs.BTreeMap.{is_at}
use Rattle.std.proofs.lemmas.Map.Text.{is_eq-slice_cmp}
use Rattle.std.proofs.Math.Bool.{or_self_left}
use Rattle.std.proofs.lemmas.Bool.{and_parts}
use Rattle.std.specs.Cmp.{tied_then}
use Rattle.wcv_module.proofs.Names.{same_text}
use Rattle.wcv_syntax.specs.Model.{Text}
use Rattle.wcv_syntax.specs.ModuleTypes.{same_pair, is_pair_among}
use Rattle.wcv_module.specs.PairSet.{Pair, bytes_of, pairs_of}

-- how a set orders its pairs
abbrev pub order : Pair → Pair → Ordering
order x y = ordering_then (string_cmp x.0 y.0) (string_cmp x.1 y.1)

-- pairs are equal in the order where their bytes are
pub equal_bytes : (x y : Pair) → is_eq (order x y) ≡ same_pair (bytes_of x) (bytes_of y)
equal_bytes x y =
    sym (tied_then (string_cmp x.0 y.0) (string_cmp x.1 y.1)) ∙ ap (λ (b : Bool). b && is_eq (string_cmp x.1 y.1)) (is_eq-slice_cmp (string_bytes x.0) (string_bytes y.0))
    ∙ ap (λ (b : Bool). bytes_eq (string_bytes x.0) (string_bytes y.0) && b) (is_eq-slice_cmp (string_bytes x.1) (string_bytes y.1))

-- so the set has what compares equal where it has the bytes
pub has_pair : (k : Pair) (ks : List Pair) → list_any (is_at (order k)) ks ≡ is_pair_among (bytes_of k) (pairs_of ks)
has_pair k [] = refl
has_pair k (x ∷ ks) = ap (λ (b : Bool). b || list_any (is_at (order k)) ks) (equal_bytes k x) ∙ ap (λ (b : Bool). same_pair (bytes_of k) (bytes_of x) || b) (has_pair k ks)

or_swap : (a b c : Bool) → (a || (b || c)) ≡ (b || (a || c))
or_swap a b c = grind arith

pub same_texts : (p q : Text × Text) → same_pair p q ≡ true → p ≡ q
same_texts p q e =
    let both = and_parts (bytes_eq p.0 q.0) (bytes_eq p.1 q.1) e in
    λ j. (same_text p.0 q.0 both.0 j, same_text p.1 q.1 both.1 j)

-- after a pair joined, the set has it and what it had
pub has_more : (p : Text × Text) (k : Pair) (ks : List Pair) → is_pair_among p (pairs_of (insert_key order ks k)) ≡ (same_pair p (bytes_of k) || is_pair_among p (pairs_of ks))
has_more p k [] = refl
has_more p k (x ∷ ks) = go (order k x) refl (has_more p k ks)
  where
    go : (o : Ordering) → order k x ≡ o → is_pair_among p (pairs_of (insert_key order ks k)) ≡ (same_pair p (bytes_of k) || is_pair_among p (pairs_of ks)) → is_pair_among p (pairs_of (match_ordering o (k ∷ x ∷ ks) (x ∷ ks) (x ∷ insert_key order ks k))) ≡ (same_pair p (bytes_of k) || (same_pair p (bytes_of x) || is_pair_among p (pairs_of ks)))
    go Less e more = refl
    go Equal e more =
        let same : bytes_of k ≡ bytes_of x = same_texts (bytes_of k) (bytes_of x) (sym (equal_bytes k x) ∙ ap is_eq e) in
        sym (or_self_left (same_pair p (bytes_of x)) (is_pair_among p (pairs_of ks))) ∙ ap (λ (b : Text × Text). same_pair p b || (same_pair p (bytes_of x) || is_pair_among p (pairs_of ks))) (sym same)
    go Greater e more = ap (λ (b : Bool). same_pair p (bytes_of x) || b) more ∙ or_swap (same_pair p (bytes_of x)) (same_pair p (bytes_of k)) (is_pair_among p (pairs_of ks))
