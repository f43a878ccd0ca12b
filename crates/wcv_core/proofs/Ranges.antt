-- Types that are added to a space one after the other.
use Rattle.std.proofs.Common.{◌≡◌, ℕ, zero, suc, ◌+◌, ◌<◌, ◌≤◌, List, [], ◌∷◌, ◌++◌, length, map, take, get_or, All, Option, Some, None, refl, sym, ◌∙◌, ap, arith, add-one, append_assoc, length-append}
use Rattle.std.proofs.lemmas.List.FromFn.{length-range_with_len}
use Rattle.std.specs.List.{range_with_len}
use Rattle.wcv_core.specs.CoreForm.{Group}
use Rattle.wcv_core.specs.CoreGroups.{total, id_of}
use Rattle.wcv_core.specs.CoreTable.{with_group, joined_to}
use Rattle.wcv_core.specs.CoreWritten.{Core_entry, sub_entry, module_entry, IsKnown}
use Rattle.wcv_core.proofs.Rowing.{length-map, total-append}
use Rattle.wcv_core.specs.CoreJoining.{with_types, IsBegun}

with_suc : {S : Type 0} (add : S → ℕ → S) (s : S) (a k : ℕ) → add (with_types add s (range_with_len a k)) (a + k) ≡ with_types add s (range_with_len a (suc k))
with_suc add s a zero = let z : a + 0 ≡ a = omega arith in ap (add s) z
with_suc add s a (suc k) = let z : a + suc k ≡ a + 1 + k = omega arith in ap (add (with_types add (add s a) (range_with_len (a + 1) k))) z ∙ with_suc add (add s a) (a + 1) k

pub with_next : {S : Type 0} (add : S → ℕ → S) (s t : S) (a k i : ℕ) → t ≡ with_types add s (range_with_len a k) → i ≡ a + k → add t i ≡ with_types add s (range_with_len a (k + 1))
with_next add s t a k i e f = (λ j. add (e j) (f j)) ∙ (with_suc add s a k ∙ ap (λ (m : ℕ). with_types add s (range_with_len a m)) (sym (add-one k)))

map_suc : {A : Type 0} (v : ℕ → A) (a k : ℕ) → map v (range_with_len a k) ++ v (a + k) ∷ [] ≡ map v (range_with_len a (suc k))
map_suc v a zero = let z : a + 0 ≡ a = omega arith in λ j. v (z j) ∷ []
map_suc v a (suc k) = let z : a + suc k ≡ a + 1 + k = omega arith in (λ j. v a ∷ (map v (range_with_len (a + 1) k) ++ v (z j) ∷ [])) ∙ λ j. v a ∷ map_suc v (a + 1) k j

pub map_next : {A : Type 0} (v : ℕ → A) (xs ys : List A) (a k i : ℕ) → ys ≡ xs ++ map v (range_with_len a k) → i ≡ a + k → ys ++ v i ∷ [] ≡ xs ++ map v (range_with_len a (k + 1))
map_next v xs ys a k i e f =
    (λ j. e j ++ v (f j) ∷ []) ∙ (append_assoc xs (map v (range_with_len a k)) (v (a + k) ∷ []) ∙ ap (λ ms. xs ++ ms) (map_suc v a k ∙ ap (λ (m : ℕ). map v (range_with_len a m)) (sym (add-one k))))

take_range : (a n k : ℕ) → k ≤ n → take k (range_with_len a n) ≡ range_with_len a k
take_range a n zero h = refl
take_range a zero (suc k) h = Prim.absurd (omega arith)
take_range a (suc n) (suc k) h = λ j. a ∷ take_range (a + 1) n k (omega arith) j

pub begun : {S : Type 0} (add : S → ℕ → S) (failed : S → S) (s u t : S) (a n k : ℕ) → k ≤ n → t ≡ failed u → u ≡ with_types add s (range_with_len a k) → IsBegun add failed s (range_with_len a n) t
begun add failed s u t a n k h f e = (k, f ∙ ap failed (e ∙ ap (with_types add s) (sym (take_range a n k h))))

pub added_length : {A : Type 0} (v : ℕ → A) (xs ys : List A) (a k : ℕ) → ys ≡ xs ++ map v (range_with_len a k) → length ys ≡ length xs + k
added_length v xs ys a k e = ap length e ∙ (length-append xs (map v (range_with_len a k)) ∙ omega (arith, length-map v (range_with_len a k), length-range_with_len a k))

-- ## Types of the table

pub known_push : (n i : ℕ) (es : List Core_entry) → i < n → All (IsKnown n) es → All (IsKnown n) (es ++ sub_entry i ∷ [])
known_push n i [] h a zero d l = h
known_push n i [] h a (suc k) d l = Prim.absurd (omega arith)
known_push n i (e ∷ es) h a zero d l = a zero d (omega arith)
known_push n i (e ∷ es) h a (suc k) d l = known_push n i es h (λ j c m. a (suc j) c (omega arith)) k d (omega arith)

pub known_more : (n m : ℕ) (es : List Core_entry) → n ≤ m → All (IsKnown n) es → All (IsKnown m) es
known_more n m es h a k d l = go (get_or es k d) (a k d l)
  where
    go : (e : Core_entry) → IsKnown n e → IsKnown m e
    go (sub_entry i) w = omega (arith, h, w)
    go module_entry w = tt

pub total_with : (gs : List Group) (g : Group) → total gs ≤ total (with_group gs g)
total_with gs g = go (id_of gs g)
  where
    go : (o : Option ℕ) → total gs ≤ total (joined_to o gs g)
    go None = omega (arith, total-append gs g)
    go (Some i) = omega arith
