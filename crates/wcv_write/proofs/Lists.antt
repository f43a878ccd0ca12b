-- Lists of things that are seen as others, and objects of one member.
use Rattle.std.proofs.Common.{◌≡◌, ℕ, List, [], ◌∷◌, ◌++◌, map, refl, ap, ◌∙◌, append_assoc}
use Rattle.json.specs.Token as token
use Rattle.json.specs.Token.{Token}
use Rattle.serde_json.specs.Data.{Data, item}
use Rattle.wcv_write.specs.Json.{items_of, tokens_of, under}

pub items_of_map : {X Y : Type 0} (f : Y → Data) (g : X → Y) (xs : List X) → items_of f (map g xs) ≡ items_of (λ x. f (g x)) xs
items_of_map f g [] = refl
items_of_map f g (x ∷ xs) = ap (item (f (g x))) (items_of_map f g xs)

-- its opening, its value and its closing brace
pub under_written : (key : List ℕ) (d : Data) (start one two last : List Token) → one ≡ start ++ token.begin_object ∷ token.key key ∷ [] → two ≡ one ++ tokens_of d → last ≡ two ++ token.end_object ∷ [] →
    last ≡ start ++ tokens_of (under key d)
under_written key d start one two last p q r =
    r ∙ ap (λ (ts : List Token). ts ++ token.end_object ∷ []) (q ∙ ap (λ (ts : List Token). ts ++ tokens_of d) p) ∙ simp append_assoc
