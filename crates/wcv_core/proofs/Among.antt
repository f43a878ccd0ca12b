-- A text among others.
use Rattle.std.proofs.Common.{◌≡◌, List, [], ◌∷◌, ◌++◌, Bool, true, ◌||◌, sym, ◌∙◌, ap, arith, ℕ}
use Rattle.std.proofs.Math.Bool.{or_assoc, or_comm, or-false}
use Rattle.std.specs.Str.{bytes_eq}
use Rattle.std.proofs.lemmas.Slice.Eq.{bytes_eq-Decides}
use Rattle.wcv_core.specs.Label.{is_among}

pub bytes_eq-sym : (a b : List ℕ) → bytes_eq a b ≡ bytes_eq b a
bytes_eq-sym a b = grind (arith, bytes_eq-Decides a b, bytes_eq-Decides b a)

pub same_bytes : (a b : List ℕ) → bytes_eq a b ≡ true → a ≡ b
same_bytes a b e = grind (arith, bytes_eq-Decides a b)

pub own_bytes : (a : List ℕ) → bytes_eq a a ≡ true
own_bytes a = grind (arith, bytes_eq-Decides a a)

pub or_swap : (a b c : Bool) → (a || (b || c)) ≡ (b || (a || c))
or_swap a b c = grind arith

-- one more text at the end
pub is_among-push : (t n : List ℕ) (ks : List (List ℕ)) → is_among t (ks ++ n ∷ []) ≡ (is_among t ks || bytes_eq t n)
is_among-push t n [] = or-false (bytes_eq t n)
is_among-push t n (k ∷ ks) = ap (λ (b : Bool). bytes_eq t k || b) (is_among-push t n ks) ∙ sym (or_assoc (bytes_eq t k) (is_among t ks) (bytes_eq t n))

-- one more text at the end, which is looked at first
pub is_among-joined : (t n : List ℕ) (ks : List (List ℕ)) → (bytes_eq t n || is_among t ks) ≡ is_among t (ks ++ n ∷ [])
is_among-joined t n ks = or_comm (bytes_eq t n) (is_among t ks) ∙ sym (is_among-push t n ks)
