-- A list that joins a map from its end leads to the first entry of each key.
use Rattle.std.proofs.Common.{◌≡◌, ℕ, zero, suc, ◌-◌, ◌<◌, List, [], ◌∷◌, length, drop, Bool, ◌&&◌, cond, Option, Some, None, refl, sym, ◌∙◌, ap, arith, bytes_eq, Bor, nat_cmp, Ordering}
use Rattle.std.specs.Prelude.{slice_get}
use Rattle.std.specs.BTreeMap.{BTreeMap, Updates}
use Rattle.std.specs.Cmp.{tied_then}
use Rattle.std.specs.Cmp.Lexicographic.{slice_cmp}
use Rattle.std.specs.Map.{lookup}
use Rattle.std.specs.Ordering.{is_eq, ordering_then}
use Rattle.std.proofs.lemmas.Map.Text.{btree_map_updates_str, is_eq-slice_cmp}
use Rattle.wcv_types.specs.Tree.{Text}
use Rattle.wcv_closed.specs.CoreModules.{same_pair}
use Rattle.wcv_closed.proofs.ModuleMatching.{texts_equiv, pairs_equiv}
use Rattle.wcv_matching.specs.ByName.{held, held_pair}

-- ## Lists

pub some_one : {A : Type 0} (x y : A) → Some x ≡ Some y → x ≡ y
some_one x y e = cc

pub drop_none : {A : Type 0} (xs : List A) → drop zero xs ≡ xs
drop_none [] = refl
drop_none (x ∷ xs) = refl

pub from_entry : {A : Type 0} (xs : List A) (i : ℕ) (x : A) → Some x ≡ slice_get xs i → drop i xs ≡ x ∷ drop (suc i) xs
from_entry [] i x h = cc
from_entry (y ∷ xs) zero x h = let e : y ≡ x = sym (some_one x y h) in λ j. e j ∷ sym (drop_none xs) j
from_entry (y ∷ xs) (suc i) x h = from_entry xs i x h

pub before_end : {A : Type 0} (xs : List A) (k : ℕ) (x : A) → 0 < k → Some x ≡ slice_get xs (k - 1) → drop (k - 1) xs ≡ x ∷ drop k xs
before_end xs k x l h = let e : suc (k - 1) ≡ k = omega arith in from_entry xs (k - 1) x h ∙ ap (λ (n : ℕ). x ∷ drop n xs) e

pub is_there : {A : Type 0} (xs : List A) (k : ℕ) → k < length xs → None ≡ slice_get xs k → ⊥
is_there [] k l e = Prim.absurd (omega arith)
is_there (x ∷ xs) zero l e = cc
is_there (x ∷ xs) (suc k) l e = is_there xs k (omega arith) e

-- ## Names

pub name_joins : {X : Type 0} (m n : BTreeMap (Bor Text) X) (k : Bor Text) (v : X) (es more : List (Text × X)) → Updates (λ x y. slice_cmp nat_cmp x.now y.now) m n k (Some v)
    → more ≡ (k.now, v) ∷ es → ((q : Text) → held m q ≡ lookup (bytes_eq q) es) → (q : Text) → held n q ≡ lookup (bytes_eq q) more
name_joins m n k v es more u e f q =
    btree_map_updates_str k.now m n (Some v) u q ∙ ap (λ (o : Option _). cond (bytes_eq k.now q) (Some v) o) (f q) ∙
    ap (λ (b : Bool). cond b (Some v) (lookup (bytes_eq q) es)) (texts_equiv.symm k.now q) ∙ sym (ap (lookup (bytes_eq q)) e)

-- ## Pairs

abbrev order : Bor Text × Bor Text → Bor Text × Bor Text → Ordering
order x y = ordering_then (slice_cmp nat_cmp x.0.now y.0.now) (slice_cmp nat_cmp x.1.now y.1.now)

abbrev lent : Text → Bor Text
lent t = record { ref_ptr = (0, 0); now = t }

abbrev bytes_of : Bor Text × Bor Text → Text × Text
bytes_of k = (k.0.now, k.1.now)

equal_bytes : (a b c d : Text) → is_eq (ordering_then (slice_cmp nat_cmp a c) (slice_cmp nat_cmp b d)) ≡ same_pair (a, b) (c, d)
equal_bytes a b c d =
    sym (tied_then (slice_cmp nat_cmp a c) (slice_cmp nat_cmp b d)) ∙ ap (λ (x : Bool). x && is_eq (slice_cmp nat_cmp b d)) (is_eq-slice_cmp a c) ∙ ap (λ (x : Bool). bytes_eq a c && x) (is_eq-slice_cmp b d)

pub pair_joins : {X : Type 0} (m n : BTreeMap (Bor Text × Bor Text) X) (k : Bor Text × Bor Text) (v : X) (es more : List ((Text × Text) × X)) → Updates order m n k (Some v)
    → more ≡ ((k.0.now, k.1.now), v) ∷ es → ((q : Text × Text) → held_pair m q ≡ lookup (same_pair q) es) → (q : Text × Text) → held_pair n q ≡ lookup (same_pair q) more
pair_joins m n k v es more u e f q =
    u.0 (lent q.0, lent q.1) ∙ ap (λ (b : Bool). cond b (Some v) (held_pair m q)) (equal_bytes k.0.now k.1.now q.0 q.1 ∙ pairs_equiv.symm (bytes_of k) q) ∙
    ap (λ (o : Option _). cond (same_pair q (bytes_of k)) (Some v) o) (f q) ∙ sym (ap (lookup (same_pair q)) e)
