-- The bytes of a list, item by item.
use Rattle.std.proofs.Common.{◌≡◌, Some, ℕ, ◌+◌, ◌<◌, ◌≤◌, List, [], ◌∷◌, length, get_or, drop, map, refl, sym, ap, ◌∙◌}
use Rattle.std.proofs.lemmas.List.{at_drop_more, at_drop_all, length-map}
use Rattle.wcv_encode.specs.Bytes.{Bytes, ◌⧺◌, each, vec}

each_none : {A : Type 0} (w : A → Bytes) → each w [] ≡ Some []
unfolding each
each_none w = refl

each_more : {A : Type 0} (w : A → Bytes) (x : A) (xs : List A) → each w (x ∷ xs) ≡ w x ⧺ each w xs
unfolding each
each_more w x xs = refl

-- what is left of a list, one item on
pub each_drop : {A : Type 0} (w : A → Bytes) (xs : List A) (i : ℕ) (x : A) → i < length xs → x ≡ get_or xs i x → each w (drop i xs) ≡ w x ⧺ each w (drop (i + 1) xs)
each_drop w xs i x h e =
    at_drop_more (each w) xs i x h ∙ ap (λ y. each w (y ∷ drop (i + 1) xs)) (sym e) ∙ each_more w x (drop (i + 1) xs)

pub each_end : {A : Type 0} (w : A → Bytes) (xs : List A) (i : ℕ) → length xs ≤ i → each w (drop i xs) ≡ Some []
each_end w xs i h = at_drop_all (each w) xs i h ∙ each_none w

each_map : {A B : Type 0} (w : B → Bytes) (f : A → B) (xs : List A) → each (λ x. w (f x)) xs ≡ each w (map f xs)
unfolding each
each_map w f [] = refl
each_map w f (x ∷ xs) = ap (λ b. w (f x) ⧺ b) (each_map w f xs)

-- a list of what is seen as something else
pub vec_map : {A B : Type 0} (w : B → Bytes) (f : A → B) (xs : List A) → vec (λ x. w (f x)) xs ≡ vec w (map f xs)
unfolding vec
vec_map w f xs = rw (each_map w f xs, length-map) refl

-- the same, where nothing names the item
pub each_at : {A : Type 0} (w : A → Bytes) (xs : List A) (i : ℕ) (d : A) → i < length xs → each w (drop i xs) ≡ w (get_or xs i d) ⧺ each w (drop (i + 1) xs)
each_at w xs i d h = at_drop_more (each w) xs i d h ∙ each_more w (get_or xs i d) (drop (i + 1) xs)
