-- Lists that are cut, joined and repeated.
use Rattle.std.proofs.Common.{◌≡◌, ℕ, zero, suc, ◌≤◌, ◌<◌, List, [], ◌∷◌, ◌++◌, length, take, refl, sym, ◌∙◌, ap, arith, append_assoc, append-nil, take_all, ◌+◌, ◌-◌, get_or, add-one, Some, None, ⊎_elim}
use Rattle.std.specs.Prelude.{Option, slice_get}
use Rattle.std.proofs.lemmas.Bool.{cases_lt}
use Rattle.std.proofs.lemmas.List.{length-take, take-append-le}
use Rattle.std.proofs.Math.Seq.{take-suc}
use Rattle.wcv_types.proofs.Copying.{none_past}
use Rattle.wcv_types.proofs.Lists.{take-next}
use Rattle.wcv_types.specs.Flat.{joined, either, repeated}

-- ## Lists that are cut

pub cut_before : {X : Type 0} (n : ℕ) (xs ys : List X) → take n (take n xs ++ ys) ≡ take n (xs ++ ys)
cut_before zero xs ys = refl
cut_before (suc n) [] ys = refl
cut_before (suc n) (x ∷ xs) ys = ap (λ zs. x ∷ zs) (cut_before n xs ys)

pub cut_further : {X : Type 0} (n m : ℕ) (xs ys : List X) → n ≤ m → take n (xs ++ take m ys) ≡ take n (xs ++ ys)
cut_further zero m xs ys h = refl
cut_further (suc n) zero xs ys h = absurd (omega arith)
cut_further (suc n) (suc m) [] [] h = refl
cut_further (suc n) (suc m) [] (y ∷ ys) h = ap (λ zs. y ∷ zs) (cut_further n m [] ys (omega arith))
cut_further (suc n) (suc m) (x ∷ xs) ys h = ap (λ zs. x ∷ zs) (cut_further n (suc m) xs ys (omega arith))

pub cut_behind : {X : Type 0} (n : ℕ) (xs ys : List X) → take n (xs ++ take n ys) ≡ take n (xs ++ ys)
cut_behind n xs ys = cut_further n n xs ys (omega arith)

-- where a cut list is full, what is behind it is cut off
pub cut_full : {X : Type 0} (n : ℕ) (xs ys : List X) → length xs ≡ n → take n (xs ++ ys) ≡ xs
cut_full n xs ys h = take-append-le n xs ys (omega arith) ∙ take_all n xs (omega arith)

-- one more element behind those
pub append_next : {X : Type 0} (d : X) (m k : ℕ) (list xs ys more : List X) → k < length ys → list ≡ take m (xs ++ take k ys) → more ≡ take m (list ++ get_or ys k d ∷ []) → more ≡ take m (xs ++ take (k + 1) ys)
append_next d m k list xs ys more w h e =
    e ∙ ap (λ zs. take m (zs ++ get_or ys k d ∷ [])) h ∙ cut_before m (xs ++ take k ys) (get_or ys k d ∷ []) ∙
    ap (take m) (append_assoc xs (take k ys) (get_or ys k d ∷ []) ∙ ap (λ zs. xs ++ zs) (sym (take-suc ys k d w) ∙ ap (λ j. take j ys) (sym (add-one k))))

-- other elements behind those, which may be cut
pub list_next : {X : Type 0} (m : ℕ) (list one more x rest : List X) → one ≡ take m x → more ≡ take m (list ++ one) → take m (more ++ rest) ≡ take m (list ++ (x ++ rest))
list_next m list one more x rest e h =
    ap (λ zs. take m (zs ++ rest)) (h ∙ ap (λ zs. take m (list ++ zs)) e ∙ cut_behind m list x) ∙ cut_before m (list ++ x) rest ∙ ap (take m) (append_assoc list x rest)

pub list_last : {X : Type 0} (m : ℕ) (list rest : List X) → length list ≤ m → rest ≡ [] → take m (list ++ rest) ≡ list
list_last m list rest h e = ap (λ zs. take m (list ++ zs)) e ∙ ap (take m) (append-nil list) ∙ take_all m list h

-- ## Lists that are repeated

pub repeated_none : {X : Type 0} (n : ℕ) → repeated {X = X} n [] ≡ []
repeated_none zero = refl
repeated_none (suc n) = repeated_none n

pub repeated_cut : {X : Type 0} (m n : ℕ) (xs : List X) → take m (repeated n (take m xs)) ≡ take m (repeated n xs)
repeated_cut m zero xs = refl
repeated_cut m (suc n) xs =
    cut_before m xs (repeated n (take m xs)) ∙ sym (cut_behind m xs (repeated n (take m xs))) ∙ ap (λ ys. take m (xs ++ ys)) (repeated_cut m n xs) ∙ cut_behind m xs (repeated n xs)

-- one more of them
pub repeated_next : {X : Type 0} (m k n : ℕ) (list xs more : List X) → k < n → more ≡ take m (list ++ xs) → take m (more ++ repeated (n - (k + 1)) xs) ≡ take m (list ++ repeated (n - k) xs)
repeated_next m k n list xs more h e =
    let one : suc (n - (k + 1)) ≡ n - k = omega arith in
    ap (λ zs. take m (zs ++ repeated (n - (k + 1)) xs)) e ∙ cut_before m (list ++ xs) (repeated (n - (k + 1)) xs) ∙
    ap (take m) (append_assoc list xs (repeated (n - (k + 1)) xs)) ∙ ap (λ j. take m (list ++ repeated j xs)) one

-- ## Lists that are joined

module _ {X : Type 0} (join : X → X → X) where
  pub joined_cut : (n : ℕ) (xs ys : List X) → take n (joined join xs ys) ≡ joined join (take n xs) (take n ys)
  joined_cut zero xs ys = refl
  joined_cut (suc n) [] ys = refl
  joined_cut (suc n) (x ∷ xs) [] = refl
  joined_cut (suc n) (x ∷ xs) (y ∷ ys) = ap (λ zs. join x y ∷ zs) (joined_cut n xs ys)

  joined_within : (n : ℕ) (xs ys : List X) → length xs ≤ n → length ys ≤ n → length (joined join xs ys) ≤ n
  joined_within n [] ys h i = i
  joined_within n (x ∷ xs) [] h i = h
  joined_within zero (x ∷ xs) (y ∷ ys) h i = absurd (omega arith)
  joined_within (suc n) (x ∷ xs) (y ∷ ys) h i =
      let w : length (joined join xs ys) ≤ n = joined_within n xs ys (omega arith) (omega arith) in
      omega (arith, w)

  either_one : (o : Option X) → o ≡ either join o None
  either_one None = refl
  either_one (Some x) = refl

  joined_at : (xs ys : List X) (k : ℕ) → slice_get (joined join xs ys) k ≡ either join (slice_get xs k) (slice_get ys k)
  joined_at [] ys k = refl
  joined_at (x ∷ xs) [] zero = refl
  joined_at (x ∷ xs) [] (suc k) = either_one (slice_get xs k)
  joined_at (x ∷ xs) (y ∷ ys) zero = refl
  joined_at (x ∷ xs) (y ∷ ys) (suc k) = joined_at xs ys k

  -- one position after another
  module _ (xs ys : List X) (k : ℕ) (a b : Option X) (list : List X)
      (so_far : list ≡ take k (joined join xs ys)) (first : a ≡ slice_get xs k) (second : b ≡ slice_get ys k) where
    at_k : slice_get (joined join xs ys) k ≡ either join a b
    at_k = joined_at xs ys k ∙ (λ i. either join (sym first i) (sym second i))

    pub joined_ends : either join a b ≡ None → list ≡ joined join xs ys
    joined_ends e =
        let past : length (joined join xs ys) ≤ k = ⊎_elim (λ w. absurd (none_past (joined join xs ys) k (sym (at_k ∙ e)) w)) (λ w. w) (cases_lt k (length (joined join xs ys))) in
        so_far ∙ take_all k (joined join xs ys) past

    pub joined_more : (x : X) (more : List X) → either join a b ≡ Some x → k < 17 → more ≡ take 17 (list ++ x ∷ []) → more ≡ take (k + 1) (joined join xs ys)
    joined_more x more e w h =
        let next : take (suc k) (joined join xs ys) ≡ take k (joined join xs ys) ++ x ∷ [] = take-next (joined join xs ys) k x (at_k ∙ e) in
        let len : length (take (suc k) (joined join xs ys)) ≤ 17 = omega (arith, w, length-take (suc k) (joined join xs ys)) in
        h ∙ ap (λ zs. take 17 (zs ++ x ∷ [])) so_far ∙ ap (take 17) (sym next) ∙ take_all 17 (take (suc k) (joined join xs ys)) len ∙
        ap (λ j. take j (joined join xs ys)) (sym (add-one k))

  pub joined_whole : (xs ys list : List X) (k : ℕ) → length xs ≤ 17 → length ys ≤ 17 → 17 ≤ k → list ≡ take k (joined join xs ys) → list ≡ joined join xs ys
  joined_whole xs ys list k h i w e = e ∙ take_all k (joined join xs ys) (omega (arith, w, joined_within 17 xs ys h i))
