-- Codes of lists, from the front.
use Rattle.std.proofs.Common.{◌≡◌, ℕ, zero, suc, ◌+◌, ◌<◌, List, [], ◌∷◌, ◌++◌, length, map, take, get_or, refl, sym, ◌∙◌, ap, arith, append_assoc, add-one, take_all, ◌≤◌, subst}
use Rattle.wcv_core.specs.CoreCode.{all_codes}

pub all_codes-append : {A : Type 0} (f : A → List ℕ) (xs ys : List A) → all_codes f (xs ++ ys) ≡ all_codes f xs ++ all_codes f ys
all_codes-append f [] ys = refl
all_codes-append f (x ∷ xs) ys = ap (λ (c : List ℕ). f x ++ c) (all_codes-append f xs ys) ∙ sym (append_assoc (f x) (all_codes f xs) (all_codes f ys))

pub all_codes-map : {A B : Type 0} (f : B → List ℕ) (g : A → B) (xs : List A) → all_codes f (map g xs) ≡ all_codes (λ x. f (g x)) xs
all_codes-map f g [] = refl
all_codes-map f g (x ∷ xs) = ap (λ (c : List ℕ). f (g x) ++ c) (all_codes-map f g xs)

step : {A : Type 0} (f : A → List ℕ) (xs : List A) (i : ℕ) (d : A) → i < length xs → all_codes f (take (suc i) xs) ≡ all_codes f (take i xs) ++ f (get_or xs i d)
step f [] i d h = Prim.absurd (omega arith)
step f (x ∷ xs) zero d h = append_nil (f x)
  where
    append_nil : (c : List ℕ) → c ++ [] ≡ c
    append_nil [] = refl
    append_nil (n ∷ c) = ap (λ (r : List ℕ). n ∷ r) (append_nil c)
step f (x ∷ xs) (suc i) d h =
    ap (λ (c : List ℕ). f x ++ c) (step f xs i d (omega arith)) ∙ sym (append_assoc (f x) (all_codes f (take i xs)) (f (get_or xs i d)))

-- the next element's code behind those before it
pub next : {A : Type 0} (f : A → List ℕ) (old : List ℕ) (xs : List A) (i : ℕ) (d : A) → i < length xs
    → (old ++ all_codes f (take i xs)) ++ f (get_or xs i d) ≡ old ++ all_codes f (take (i + 1) xs)
next f old xs i d h =
    append_assoc old (all_codes f (take i xs)) (f (get_or xs i d)) ∙
    ap (λ (c : List ℕ). old ++ c) (sym (step f xs i d h) ∙ ap (λ (n : ℕ). all_codes f (take n xs)) (sym (add-one i)))

-- one more code is pushed in a loop
pub pushed : {A : Type 0} (f : A → List ℕ) (old : List ℕ) (xs : List A) (i : ℕ) (d : A) {code new : List ℕ} → i < length xs → code ≡ old ++ all_codes f (take i xs)
    → new ≡ code ++ f (get_or xs i d) → new ≡ old ++ all_codes f (take (i + 1) xs)
pushed f old xs i d h e n = n ∙ (ap (λ (c : List ℕ). c ++ f (get_or xs i d)) e ∙ next f old xs i d h)

-- the loop that pushes codes ends
pub pushed_all : {A : Type 0} (f : A → List ℕ) (old : List ℕ) (xs : List A) (i : ℕ) {code : List ℕ} → length xs ≤ i → code ≡ old ++ all_codes f (take i xs) → code ≡ old ++ all_codes f xs
pushed_all f old xs i h e = e ∙ ap (λ (ys : List _). old ++ all_codes f ys) (take_all i xs h)

-- one more code is pushed in a loop over elements that are lent
pub pushed_item : {A : Type 0} (f : A → List ℕ) (old : List ℕ) (xs ys : List A) (i : ℕ) (x : A) {code new : List ℕ} → ys ≡ xs → i < length ys → x ≡ get_or ys i x
    → code ≡ old ++ all_codes f (take i xs) → new ≡ code ++ f x → new ≡ old ++ all_codes f (take (i + 1) xs)
pushed_item f old xs ys i x {code} v h is e n =
    pushed f old xs i x (subst (λ zs. i < length zs) v h) e (n ∙ ap (λ y. code ++ f y) (is ∙ ap (λ zs. get_or zs i x) v))
