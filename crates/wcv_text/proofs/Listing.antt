-- Lists with commas between their elements.
use Rattle.std.proofs.Common.{◌≡◌, ℕ, suc, ◌+◌, ◌<◌, ◌≤◌, List, [], ◌∷◌, ◌++◌, length, map, get_or, drop, drop-cons, add-one, codes, refl, sym, ◌∙◌, ap, append_assoc, append-nil, arith, nat_lt, Bool, true, false, ◌||◌, cond, Some}
use Rattle.std.specs.Prelude.{slice_get}
use Rattle.std.proofs.Math.ListN.{drop_of_length-le}
use Rattle.std.proofs.lemmas.Grind.{common_steps}
use Rattle.std.proofs.lemmas.Option.{get_or_from_slice_get, slice_get_within}
use Rattle.wcv_types.specs.Quoting.{listed}
use Rattle.wcv_types.specs.Tree.{Text}
use Rattle.wcv_text.specs.Mentions.{separator, comma}

-- the rest of a list, from an element of it on
drop_step : {A : Type 0} (xs : List A) (i : ℕ) (x : A) → slice_get xs i ≡ Some x → drop i xs ≡ x ∷ drop (suc i) xs
drop_step {A} xs i x h = drop-cons xs i x (slice_get_within xs i x h) ∙ ap (λ (y : A). y ∷ drop (suc i) xs) (get_or_from_slice_get xs i x x h)

pub drop_next : {A : Type 0} (xs : List A) (i : ℕ) (x : A) → slice_get xs i ≡ Some x → drop i xs ≡ x ∷ drop (i + 1) xs
drop_next {A} xs i x h = drop_step xs i x h ∙ ap (λ (j : ℕ). x ∷ drop j xs) (sym (add-one i))

-- one more
one_more : {A : Type 0} (f : A → Text) (text one next all before : Text) (i : ℕ) (x : A) (xs : List A) → drop i xs ≡ x ∷ drop (suc i) xs → one ≡ text ++ before → next ≡ one ++ f x →
    text ++ listed before (map f (drop i xs)) ≡ all → next ++ listed (codes ", ") (map f (drop (suc i) xs)) ≡ all
one_more {A} f text one next all before i x xs step p q h =
    let rest : Text = listed (codes ", ") (map f (drop (suc i) xs)) in
    ap (λ (y : Text). y ++ rest) (q ∙ ap (λ (y : Text). y ++ f x) p) ∙ regroup text before (f x) rest ∙ sym (ap (λ (ys : List A). text ++ listed before (map f ys)) step) ∙ h
  where
    regroup : (a b d e : Text) → ((a ++ b) ++ d) ++ e ≡ a ++ (b ++ d ++ e)
    regroup a b d e = simp append_assoc

pub next_listed : {A : Type 0} (f : A → Text) (text one next all : Text) (i : ℕ) (x : A) (xs : List A) → i < length xs → one ≡ text ++ separator (codes ", ") i → next ≡ one ++ f (get_or xs i x) →
    text ++ listed (separator (codes ", ") i) (map f (drop i xs)) ≡ all → next ++ listed (separator (codes ", ") (i + 1)) (map f (drop (i + 1) xs)) ≡ all
next_listed f text one next all i x xs within p q h =
    ap (λ (j : ℕ). next ++ listed (separator (codes ", ") j) (map f (drop j xs))) (add-one i) ∙
    one_more f text one next all (separator (codes ", ") i) i (get_or xs i x) xs (drop-cons xs i x within) p q h

-- so where something may stand before the list
pub next_behind : {A : Type 0} (f : A → Text) (behind : Bool) (text one next all : Text) (i : ℕ) (x : A) (xs : List A) → slice_get xs i ≡ Some x →
    one ≡ text ++ cond behind (codes ", ") (separator (codes ", ") i) → next ≡ one ++ f x →
    text ++ listed (cond behind (codes ", ") (separator (codes ", ") i)) (map f (drop i xs)) ≡ all → next ++ listed (cond behind (codes ", ") (separator (codes ", ") (i + 1))) (map f (drop (i + 1) xs)) ≡ all
next_behind f behind text one next all i x xs found p q h =
    ap (λ (j : ℕ). next ++ listed (cond behind (codes ", ") (separator (codes ", ") j)) (map f (drop j xs))) (add-one i) ∙
    ap (λ (y : Text). next ++ listed y (map f (drop (suc i) xs))) (later behind) ∙
    one_more f text one next all (cond behind (codes ", ") (separator (codes ", ") i)) i x xs (drop_step xs i x found) p q h
  where
    later : (b : Bool) → cond b (codes ", ") (codes ", ") ≡ codes ", "
    later true = refl
    later false = refl

-- all
pub all_listed : {A : Type 0} (f : A → Text) (text all before : Text) (i : ℕ) (xs : List A) → length xs ≤ i → text ++ listed before (map f (drop i xs)) ≡ all → text ≡ all
all_listed {A} f text all before i xs past h = sym (append-nil text) ∙ sym (ap (λ (ys : List A). text ++ listed before (map f ys)) (drop_of_length-le xs past)) ∙ h

-- ## One list behind another

more_listed : (xs ys : List Text) → listed (codes ", ") (xs ++ ys) ≡ listed (codes ", ") xs ++ listed (codes ", ") ys
more_listed [] ys = refl
more_listed (x ∷ xs) ys = ap (λ (r : Text). codes ", " ++ x ++ r) (more_listed xs ys) ∙ simp append_assoc

-- the second stands behind a comma where something stands before it
pub both_listed : {A : Type 0} (f : A → Text) (behind more : Bool) (xs : List A) (ys : List Text) → more ≡ (behind || nat_lt 0 (length xs)) →
    listed (comma behind) (map f xs ++ ys) ≡ listed (comma behind) (map f xs) ++ listed (comma more) ys
both_listed f behind more [] ys h = ap (λ (b : Bool). listed (comma b) ys) (sym (h ∙ or_false behind))
  where
    or_false : (b : Bool) → (b || false) ≡ b
    or_false true = refl
    or_false false = refl
both_listed f behind more (x ∷ xs) ys h =
    let some : nat_lt 0 (length (x ∷ xs)) ≡ true = grind (arith, common_steps) in
    let there : more ≡ true = h ∙ ap (λ (b : Bool). behind || b) some ∙ or_true behind in
    ap (λ (r : Text). comma behind ++ f x ++ r) (more_listed (map f xs) ys) ∙ regroup (comma behind) (f x) (listed (codes ", ") (map f xs)) (listed (codes ", ") ys) ∙
    ap (λ (b : Bool). comma behind ++ f x ++ listed (codes ", ") (map f xs) ++ listed (comma b) ys) (sym there)
  where
    or_true : (b : Bool) → (b || true) ≡ true
    or_true true = refl
    or_true false = refl

    regroup : (a b d e : Text) → a ++ b ++ (d ++ e) ≡ a ++ b ++ d ++ e
    regroup a b d e = simp append_assoc
