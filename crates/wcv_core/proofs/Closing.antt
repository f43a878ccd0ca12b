-- Lists that are checked, and put into closed form one element after the other.
use Rattle.std.proofs.Common.{◌≡◌, ℕ, zero, suc, ◌+◌, ◌<◌, ◌≤◌, List, [], ◌∷◌, ◌++◌, length, take, get_or, refl, sym, ◌∙◌, ap, arith, subst, add-one, slice_set, map, inl, inr}
use Rattle.std.specs.List.{range_with_len}
use Rattle.wcv_core.specs.Checks.{Checks, Cause, IsFree, CausedBy, MemoryOrCausedBy, all_checks}
use Rattle.wcv_core.specs.Refusal.{error_kind, error_offset}
use Rattle.wcv_core.specs.declared.error.Error.{Error}
use Rattle.wcv_core.specs.declared.error.ErrorKind.{ErrorKind}
use Rattle.wcv_core.proofs.Rowing.{length-map, get_or-map}
use Rattle.wcv_core.proofs.Causes.{cause_left, cause_right, free_both, free_left, free_right}

-- ## Errors by a part of what is checked

-- the same refusal with another message
pub caused_same : {M N : Type 0} (cs : Checks) (offset : ℕ) (e : Error M) (other : Error N) → error_kind other ≡ error_kind e → error_offset other ≡ error_offset e → MemoryOrCausedBy cs offset e → MemoryOrCausedBy cs offset other
caused_same cs offset e other k o (inl m) = inl (k ∙ m)
caused_same cs offset e other k o (inr t) = inr (subst (Cause cs) (sym k) t.0, o ∙ t.1)

pub caused_left : {M : Type 0} (cs ds : Checks) (offset : ℕ) (e : Error M) → CausedBy cs offset e → CausedBy (cs ++ ds) offset e
caused_left cs ds offset e c = (cause_left cs ds e.kind c.0, c.1)

pub caused_right : {M : Type 0} (cs ds : Checks) (offset : ℕ) (e : Error M) → CausedBy ds offset e → CausedBy (cs ++ ds) offset e
caused_right cs ds offset e c = (cause_right cs ds e.kind c.0, c.1)

-- ## Lists, one element after the other

cause_at : {A : Type 0} (f : A → Checks) (xs : List A) (i : ℕ) (x : A) (k : ErrorKind) → i < length xs → Cause (f (get_or xs i x)) k → Cause (all_checks f xs) k
cause_at f [] i x k h c = Prim.absurd (omega arith)
cause_at f (y ∷ xs) zero x k h c = cause_left (f y) (all_checks f xs) k c
cause_at f (y ∷ xs) (suc i) x k h c = cause_right (f y) (all_checks f xs) k (cause_at f xs i x k (omega arith) c)

pub caused_at : {M : Type 0} {A : Type 0} (f : A → Checks) (xs : List A) (i : ℕ) (x : A) (offset : ℕ) (e : Error M) → i < length xs → CausedBy (f (get_or xs i x)) offset e → CausedBy (all_checks f xs) offset e
caused_at f xs i x offset e h c = (cause_at f xs i x e.kind h c.0, c.1)

free_suc : {A : Type 0} (f : A → Checks) (xs : List A) (i : ℕ) (x : A) → i < length xs → IsFree (all_checks f (take i xs)) → IsFree (f (get_or xs i x)) → IsFree (all_checks f (take (suc i) xs))
free_suc f [] i x h n m = Prim.absurd (omega arith)
free_suc f (y ∷ xs) zero x h n m = free_both (f y) [] m tt
free_suc f (y ∷ xs) (suc i) x h n m =
    free_both (f y) (all_checks f (take (suc i) xs)) (free_left (f y) (all_checks f (take i xs)) n) (free_suc f xs i x (omega arith) (free_right (f y) (all_checks f (take i xs)) n) m)

pub free_next : {A : Type 0} (f : A → Checks) (xs : List A) (i : ℕ) (x : A) → i < length xs → IsFree (all_checks f (take i xs)) → IsFree (f (get_or xs i x)) → IsFree (all_checks f (take (i + 1) xs))
free_next f xs i x h n m = subst (λ (j : ℕ). IsFree (all_checks f (take j xs))) (sym (add-one i)) (free_suc f xs i x h n m)

-- a cause of one element is one of the list, where the checks are of views of the elements
pub caused_mapped : {M : Type 0} {A B : Type 0} (v : A → B) (f : B → Checks) (xs : List A) (i : ℕ) (x : A) (offset : ℕ) (e : Error M) → i < length xs → x ≡ get_or xs i x → CausedBy (f (v x)) offset e → CausedBy (all_checks f (map v xs)) offset e
caused_mapped v f xs i x offset e h is c = caused_at f (map v xs) i (v x) offset e (omega (arith, length-map v xs)) (subst (λ y. CausedBy (f y) offset e) (ap v is ∙ sym (get_or-map v xs i x)) c)

pub free_mapped : {A B : Type 0} (v : A → B) (f : B → Checks) (xs : List A) (i : ℕ) (x : A) → i < length xs → IsFree (all_checks f (take i (map v xs))) → IsFree (f (v (get_or xs i x))) → IsFree (all_checks f (take (i + 1) (map v xs)))
free_mapped v f xs i x h n m = free_next f (map v xs) i (v x) (omega (arith, length-map v xs)) n (subst (λ y. IsFree (f y)) (sym (get_or-map v xs i x)) m)

-- numbers one after the other
pub caused_ranged : {M : Type 0} (f : ℕ → Checks) (a n k x offset : ℕ) (e : Error M) → k < n → x ≡ a + k → CausedBy (f x) offset e → CausedBy (all_checks f (range_with_len a n)) offset e
caused_ranged f a zero k x offset e h s c = Prim.absurd (omega arith)
caused_ranged f a (suc n) zero x offset e h s c = let z : x ≡ a = omega arith in caused_left (f a) (all_checks f (range_with_len (a + 1) n)) offset e (subst (λ (y : ℕ). CausedBy (f y) offset e) z c)
caused_ranged f a (suc n) (suc k) x offset e h s c = caused_right (f a) (all_checks f (range_with_len (a + 1) n)) offset e (caused_ranged f (a + 1) n k x offset e (omega arith) (omega arith) c)

free_ranged_suc : (f : ℕ → Checks) (a k x : ℕ) → x ≡ a + k → IsFree (all_checks f (range_with_len a k)) → IsFree (f x) → IsFree (all_checks f (range_with_len a (suc k)))
free_ranged_suc f a zero x s n m = let z : x ≡ a = omega arith in free_both (f a) [] (subst (λ (y : ℕ). IsFree (f y)) z m) tt
free_ranged_suc f a (suc k) x s n m =
    let rest : Checks = all_checks f (range_with_len (a + 1) k) in
    free_both (f a) (all_checks f (range_with_len (a + 1) (suc k))) (free_left (f a) rest n) (free_ranged_suc f (a + 1) k x (omega arith) (free_right (f a) rest n) m)

pub free_ranged : (f : ℕ → Checks) (a k x : ℕ) → x ≡ a + k → IsFree (all_checks f (range_with_len a k)) → IsFree (f x) → IsFree (all_checks f (range_with_len a (k + 1)))
free_ranged f a k x s n m = subst (λ (j : ℕ). IsFree (all_checks f (range_with_len a j))) (sym (add-one k)) (free_ranged_suc f a k x s n m)

-- the first n elements changed, the others as they are
abbrev pub partly : {A : Type 0} → (A → A) → ℕ → List A → List A
partly f zero xs = xs
partly f (suc n) [] = []
partly f (suc n) (x ∷ xs) = f x ∷ partly f n xs

pub get_or-partly : {A : Type 0} (f : A → A) (xs : List A) (i : ℕ) (x : A) → get_or (partly f i xs) i x ≡ get_or xs i x
get_or-partly f xs zero x = refl
get_or-partly f [] (suc i) x = refl
get_or-partly f (y ∷ xs) (suc i) x = get_or-partly f xs i x

pub length-partly : {A : Type 0} (f : A → A) (xs : List A) (i : ℕ) → length (partly f i xs) ≡ length xs
length-partly f xs zero = refl
length-partly f [] (suc i) = refl
length-partly f (y ∷ xs) (suc i) = ap suc (length-partly f xs i)

set_suc : {A : Type 0} (f : A → A) (xs : List A) (i : ℕ) (x : A) → slice_set (partly f i xs) i (f (get_or xs i x)) ≡ partly f (suc i) xs
set_suc f [] zero x = refl
set_suc f (y ∷ xs) zero x = refl
set_suc f [] (suc i) x = refl
set_suc f (y ∷ xs) (suc i) x = λ j. f y ∷ set_suc f xs i x j

pub set_next : {A : Type 0} (f : A → A) (xs : List A) (i : ℕ) (x : A) → slice_set (partly f i xs) i (f (get_or xs i x)) ≡ partly f (i + 1) xs
set_next f xs i x = set_suc f xs i x ∙ ap (λ (n : ℕ). partly f n xs) (sym (add-one i))

pub partly_all : {A : Type 0} (f : A → A) (xs : List A) (i : ℕ) → length xs ≤ i → partly f i xs ≡ map f xs
partly_all f [] zero h = refl
partly_all f [] (suc i) h = refl
partly_all f (y ∷ xs) zero h = Prim.absurd (omega arith)
partly_all f (y ∷ xs) (suc i) h = λ j. f y ∷ partly_all f xs i (omega arith) j

pub map-set : {A B : Type 0} (f : A → B) (xs : List A) (i : ℕ) (x : A) → map f (slice_set xs i x) ≡ slice_set (map f xs) i (f x)
map-set f [] zero x = refl
map-set f [] (suc i) x = refl
map-set f (y ∷ xs) zero x = refl
map-set f (y ∷ xs) (suc i) x = λ j. f y ∷ map-set f xs i x j
