-- Known bytes over two calls.
use Rattle.std.proofs.Common.{ℕ, ◌+◌, ◌≤◌, List, [], ◌++◌, length, take, drop, Option, Some, None, sym, ap, refl, subst, ◌∙◌, append_assoc, ◌≡◌, ◌∷◌, take-append-drop, append-nil, length-append, arith}
use Rattle.std.proofs.Math.Seq.{take-add}
use Rattle.std.specs.Io.KnownBytes.{Appends, Consumes}
use Rattle.wcv_main.specs.Pump.{AppendsPrefix, ConsumesAtMost}

pub consumes_both : (a b c : Option (List ℕ)) (xs ys : List ℕ) → Consumes a b xs → Consumes b c ys → Consumes a c (xs ++ ys)
consumes_both None b c xs ys h k = tt
consumes_both (Some a) None c xs ys h k = absurd h
consumes_both (Some a) (Some b) None xs ys h k = absurd k
consumes_both (Some a) (Some b) (Some c) xs ys h k = h ∙ ap (λ r. xs ++ r) k ∙ sym (append_assoc xs ys c)

pub appends_nothing : (a : Option (List ℕ)) → Appends a a []
appends_nothing None = tt
appends_nothing (Some a) = sym (append-nil a)

pub appends_both : (a b c : Option (List ℕ)) (xs ys : List ℕ) → Appends a b xs → Appends b c ys → Appends a c (xs ++ ys)
appends_both None b c xs ys h k = tt
appends_both (Some a) None c xs ys h k = absurd h
appends_both (Some a) (Some b) None xs ys h k = absurd k
appends_both (Some a) (Some b) (Some c) xs ys h k = k ∙ ap (λ r. r ++ ys) h ∙ append_assoc a xs ys

-- after the first n bytes of a text, m more
pub appends_prefix : (a b c : Option (List ℕ)) (text : List ℕ) (n m : ℕ) → Appends a b (take n text) → Appends b c (take m (drop n text)) → Appends a c (take (n + m) text)
appends_prefix a b c text n m h k = rw (take-add n m text) (appends_both a b c (take n text) (take m (drop n text)) h k)

-- what was kept, and then a few bytes
pub at_most_more : (a b c : Option (List ℕ)) (xs : List ℕ) (m n : ℕ) → Consumes a b xs → ConsumesAtMost b c m → length xs + m ≤ n → ConsumesAtMost a c n
at_most_more a b c xs m n h k fits = (xs ++ k.0, consumes_both a b c xs k.0 h k.1, omega (arith, length-append xs k.0, k.2))

-- what went out is the beginning of the text
pub begun : (a b : Option (List ℕ)) (sent rest whole : List ℕ) → whole ≡ sent ++ rest → Appends a b sent → AppendsPrefix a b whole
begun a b sent rest whole e h = (length sent, subst (Appends a b) (sym (ap (take (length sent)) e ∙ front sent rest)) h)
  where
    front : (xs ys : List ℕ) → take (length xs) (xs ++ ys) ≡ xs
    front [] ys = refl
    front (x ∷ xs) ys = ap (λ (zs : List ℕ). x ∷ zs) (front xs ys)

-- and then a prefix of what follows
pub begun_more : (a b c : Option (List ℕ)) (sent more rest whole : List ℕ) → whole ≡ (sent ++ more) ++ rest → Appends a b sent → AppendsPrefix b c more → AppendsPrefix a c whole
begun_more a b c sent more rest whole e h k =
    begun a c (sent ++ take k.0 more) (drop k.0 more ++ rest) whole
    (e ∙ ap (λ (x : List ℕ). (sent ++ x) ++ rest) (sym (take-append-drop k.0 more)) ∙ regroup sent (take k.0 more) (drop k.0 more) rest) (appends_both a b c sent (take k.0 more) h k.1)
  where
    regroup : (s t d r : List ℕ) → (s ++ (t ++ d)) ++ r ≡ (s ++ t) ++ (d ++ r)
    regroup s t d r = simp append_assoc
